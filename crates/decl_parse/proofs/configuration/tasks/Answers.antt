use Rattle.std.proofs.Common.{rules}
use Rattle.phrase.proofs.Loops.{going_failed}
use Rattle.decl_parse.proofs.configuration.tasks.Goals as goal

pub returns-in_err-tasks : goal.returns-in_err-tasks
returns-in_err-tasks c = going_failed c.loop-turn.invariant c.in_err-tasks.field-0.0 _ (search rules) (search rules) (search rules) (search rules)
