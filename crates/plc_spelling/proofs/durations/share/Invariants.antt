use Rattle.std.proofs.Common.{◌≡◌, ◌*◌, ◌/◌, ◌^◌, ◌≤◌, length, drop}
use Rattle.plc_spelling.specs.Integers.{value}
use Rattle.plc_spelling.proofs.durations.share.Given as goal

abbrev pub invariant-loop-left : goal.invariant-loop-left
invariant-loop-left l =
    (l.left ≤ length l.digits) × (l.share ≡ value 10 (drop l.left l.digits) * l.unit / 10 ^ length (drop l.left l.digits)) × (l.share ≤ l.unit)

abbrev pub decreases-loop-left : goal.decreases-loop-left
decreases-loop-left l = l.left
