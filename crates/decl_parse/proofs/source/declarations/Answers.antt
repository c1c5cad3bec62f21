use Rattle.std.proofs.Common.{rules}
use Rattle.phrase.proofs.Loops.{going_on, going_failed}
use Rattle.decl_parse.proofs.source.declarations.Goals as goal

pub returns-in_err-unit : goal.returns-in_err-unit
returns-in_err-unit c = going_failed c.loop-turn.invariant c.in_err-unit.field-0.0 _ (search rules) (search rules) (search rules) (search rules)

pub loop-turn-preserved : goal.loop-turn-preserved
loop-turn-preserved c = going_on c.loop-turn.invariant (search rules) (search rules) (search rules)
