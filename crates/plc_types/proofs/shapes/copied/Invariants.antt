use Rattle.std.proofs.Common.{◌≡◌, take}
use Rattle.plc_types.proofs.shapes.copied.Given as goal

abbrev pub invariant-loop-name : goal.invariant-loop-name
invariant-loop-name l = l.copy ≡ take l.name-index l.names
