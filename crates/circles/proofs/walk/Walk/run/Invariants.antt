use Rattle.circles.specs.Walk.{Goes, Keeps, left}
use Rattle.circles.proofs.walk.Walk.run.Given as goal

abbrev pub invariant-loop-self : goal.invariant-loop-self
invariant-loop-self l = record { goes : Goes l.needs l.self; keeps : Keeps l.initial.self.place.items l.self.place.items }

abbrev pub decreases-loop-self : goal.decreases-loop-self
decreases-loop-self l = left l.self
