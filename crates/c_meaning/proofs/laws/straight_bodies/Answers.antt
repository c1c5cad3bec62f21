use Rattle.c_meaning.proofs.Straight.{straight_any}
use Rattle.c_meaning.proofs.laws.straight_bodies.Goals as goal

pub returns : goal.returns
returns c = straight_any
