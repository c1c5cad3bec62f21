use Rattle.decl_parse.proofs.Front as front
use Rattle.decl_parse.proofs.laws.one_refusal.Goals as goal

pub returns : goal.returns
returns c = front.one_refusal
