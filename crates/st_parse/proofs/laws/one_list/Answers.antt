use Rattle.phrase.proofs.Exactly.{one_value}
use Rattle.st_parse.specs.Depth.{Statements}
use Rattle.st_parse.proofs.DepthLaws.{stmts_law}
use Rattle.st_parse.proofs.laws.one_list.Goals as goal

pub returns : goal.returns
returns c = one_value _ _ _ Statements stmts_law
