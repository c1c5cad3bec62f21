use Rattle.std.proofs.Common.{◌≡◌, take}
use Rattle.plc_types.proofs.shapes.copied_bounds.Given as goal

abbrev pub invariant-loop-range : goal.invariant-loop-range
invariant-loop-range l = l.copy ≡ take l.range-index l.bounds
