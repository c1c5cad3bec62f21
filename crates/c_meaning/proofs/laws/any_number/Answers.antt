use Rattle.c_meaning.proofs.FuelLaws as fuel
use Rattle.c_meaning.proofs.laws.any_number.Goals as goal

pub returns-clause-of_while : goal.returns-clause-of_while
returns-clause-of_while c = fuel.while_in

pub returns-clause-of_body : goal.returns-clause-of_body
returns-clause-of_body c = fuel.body_in
