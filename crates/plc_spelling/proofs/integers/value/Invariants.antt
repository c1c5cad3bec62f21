use Rattle.std.proofs.Common.{◌≡◌, ◌^◌, min, take}
use Rattle.plc_spelling.specs.Integers as spec
use Rattle.plc_spelling.proofs.integers.value.Given as goal

abbrev pub invariant-loop-b : goal.invariant-loop-b
invariant-loop-b l = l.value ≡ min (spec.value l.base (take l.b-index l.digits)) (2 ^ 64)
