use Rattle.std.proofs.Common.{◌≤◌, length}
use Rattle.circles.specs.Gathered.{IsGathered}
use Rattle.circles.proofs.gathered.gathered.Given as goal

abbrev pub invariant-loop-place : goal.invariant-loop-place
invariant-loop-place l = record { low : l.place ≤ length l.walk.order.items; gathered : IsGathered l.needs l.walk.order.items l.walk.place.items l.under.items l.place }

abbrev pub decreases-loop-place : goal.decreases-loop-place
decreases-loop-place l = l.place
