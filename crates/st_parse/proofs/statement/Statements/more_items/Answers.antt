use Rattle.std.proofs.Common.{rules}
use Rattle.phrase.proofs.Loops.{going_failed}
use Rattle.st_parse.proofs.statement.Statements.more_items.Goals as goal

pub returns-in_err-group : goal.returns-in_err-group
returns-in_err-group g c = record { value = going_failed c.loop-turn.invariant c.in_err-group.field-0.0 _ (search rules) (search rules) (search rules) (search rules) }
