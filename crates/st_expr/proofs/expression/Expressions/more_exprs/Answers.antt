use Rattle.std.proofs.Common.{rules}
use Rattle.phrase.proofs.Loops.{going_on}
use Rattle.st_expr.proofs.expression.Expressions.more_exprs.Goals as goal

pub loop-turn-preserved : goal.loop-turn-preserved
loop-turn-preserved g c = record { going = going_on c.loop-turn.invariant.going (search rules) (search rules) (search rules); low = search rules }
