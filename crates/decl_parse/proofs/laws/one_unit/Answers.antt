use Rattle.decl_parse.proofs.Front as front
use Rattle.decl_parse.proofs.laws.one_unit.Goals as goal

pub returns-clause-spelled : goal.returns-clause-spelled
returns-clause-spelled c = front.one_spelled

pub returns-clause-accepted : goal.returns-clause-accepted
returns-clause-accepted c = front.one_accepted
