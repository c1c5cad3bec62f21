use Rattle.std.proofs.Common.{◌+◌, ◌-◌, ◌≤◌, length}
use Rattle.std.specs.Prelude.{nat_eq}
use Rattle.std.specs.List.{count_by}
use Rattle.circles.specs.Gathered.{IsGathering}
use Rattle.circles.specs.Walk.{new}
use Rattle.circles.proofs.gathered.gather.Given as goal

abbrev pub invariant-loop-head : goal.invariant-loop-head
invariant-loop-head l = record { low : l.head ≤ length l.queue.items; gathering : IsGathering l.needs l.walk.order.items l.walk.place.items l.under.items l.queue.items l.head l.place }

abbrev pub decreases-loop-head : goal.decreases-loop-head
decreases-loop-head l = count_by (nat_eq new) l.under.items + length l.queue.items - l.head
