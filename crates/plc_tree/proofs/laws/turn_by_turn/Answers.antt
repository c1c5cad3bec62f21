use Rattle.plc_tree.proofs.FuelLaws as fuel
use Rattle.plc_tree.proofs.laws.turn_by_turn.Goals as goal

pub returns-clause-of_while : goal.returns-clause-of_while
returns-clause-of_while c = fuel.while_turn

pub returns-clause-of_repeat : goal.returns-clause-of_repeat
returns-clause-of_repeat c = fuel.repeat_turn
