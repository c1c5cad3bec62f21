use Rattle.st_expr.specs.Expressions.{levels_in}
use Rattle.st_expr.proofs.expression.Expressions.+at_level.Given as goal

abbrev pub decreases-at_level : goal.decreases-at_level
decreases-at_level g l = levels_in l.level
