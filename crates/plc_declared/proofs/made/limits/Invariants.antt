use Rattle.std.proofs.Common.{◌≡◌, map, take}
use Rattle.plc_names.specs.Declarations as spec
use Rattle.plc_declared.proofs.made.limits.Given as goal

abbrev pub invariant-loop-b : goal.invariant-loop-b
invariant-loop-b l = l.limits ≡ map spec.limits (take l.b-index l.bounds)
