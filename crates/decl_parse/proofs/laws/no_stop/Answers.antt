use Rattle.decl_parse.proofs.Front as front
use Rattle.decl_parse.proofs.laws.no_stop.Goals as goal

pub returns : goal.returns
returns c = front.no_stop
