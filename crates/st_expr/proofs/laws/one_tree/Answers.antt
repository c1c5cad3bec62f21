use Rattle.phrase.proofs.Exactly.{one_value}
use Rattle.st_expr.specs.Depth.{Arguments, Expressions, Operands, Paths}
use Rattle.st_expr.proofs.DepthLaws.{expr_law, args_law, path_law, operand_law}
use Rattle.st_expr.proofs.laws.one_tree.Goals as goal

pub returns-clause-expressions : goal.returns-clause-expressions
returns-clause-expressions c = one_value _ _ _ Expressions expr_law

pub returns-clause-arguments : goal.returns-clause-arguments
returns-clause-arguments c = one_value _ _ _ Arguments args_law

pub returns-clause-paths : goal.returns-clause-paths
returns-clause-paths c line = one_value _ _ _ (Paths line) (path_law line)

pub returns-clause-operands : goal.returns-clause-operands
returns-clause-operands c line = one_value _ _ _ (Operands line) (operand_law line)
