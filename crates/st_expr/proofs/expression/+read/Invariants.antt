use Rattle.st_expr.proofs.expression.+read.Given as goal

abbrev pub decreases-read : goal.decreases-read
decreases-read l = l.room
