use Rattle.std.proofs.Common.{rules}
use Rattle.phrase.proofs.Loops.{going_on, going_failed}
use Rattle.st_expr.proofs.expression.Expressions.more_sides.Goals as goal

pub returns-in_err-left-clause-value : goal.returns-in_err-left-clause-value
returns-in_err-left-clause-value g c = going_failed c.loop-turn.invariant.going c.in_err-left.field-0.0 _ (search rules) (search rules) (search rules) (search rules)

pub loop-turn-preserved : goal.loop-turn-preserved
loop-turn-preserved g c = record { going = going_on c.loop-turn.invariant.going (search rules) (search rules) (search rules); low = search rules }
