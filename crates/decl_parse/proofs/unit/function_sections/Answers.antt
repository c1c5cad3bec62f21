use Rattle.std.proofs.Common.{rules}
use Rattle.phrase.proofs.Loops.{going_on, going_failed}
use Rattle.decl_parse.proofs.unit.function_sections.Goals as goal

pub returns-in_err-sections : goal.returns-in_err-sections
returns-in_err-sections c = going_failed c.loop-turn.invariant c.in_err-sections.field-0.0 _ (search rules) (search rules) (search rules) (search rules)

pub loop-turn-preserved : goal.loop-turn-preserved
loop-turn-preserved c = going_on c.loop-turn.invariant (search rules) (search rules) (search rules)
