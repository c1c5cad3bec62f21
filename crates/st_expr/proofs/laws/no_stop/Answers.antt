use Rattle.st_expr.proofs.Lacking.{of_expressions, of_arguments, of_paths, of_operands}
use Rattle.st_expr.proofs.laws.no_stop.Goals as goal

pub returns-clause-expressions : goal.returns-clause-expressions
returns-clause-expressions c w a k = (of_expressions k.0).none w a k.1

pub returns-clause-arguments : goal.returns-clause-arguments
returns-clause-arguments c w a k = (of_arguments k.0).none w a k.1

pub returns-clause-paths : goal.returns-clause-paths
returns-clause-paths c line w a k = (of_paths line k.0).none w a k.1

pub returns-clause-operands : goal.returns-clause-operands
returns-clause-operands c line w a k = (of_operands line k.0).none w a k.1
