use Rattle.c_meaning.proofs.FuelLaws as fuel
use Rattle.c_meaning.proofs.laws.turn_by_turn.Goals as goal

pub returns-clause-of_while : goal.returns-clause-of_while
returns-clause-of_while c = fuel.while_turn

pub returns-clause-of_body : goal.returns-clause-of_body
returns-clause-of_body c = fuel.body_turn
