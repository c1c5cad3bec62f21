use Rattle.plc_tree.proofs.FuelLaws as fuel
use Rattle.plc_tree.proofs.laws.any_number.Goals as goal

pub returns-clause-of_while : goal.returns-clause-of_while
returns-clause-of_while c = fuel.while_in

pub returns-clause-of_repeat : goal.returns-clause-of_repeat
returns-clause-of_repeat c = fuel.repeat_in

pub returns-clause-of_for : goal.returns-clause-of_for
returns-clause-of_for c = fuel.for_in
