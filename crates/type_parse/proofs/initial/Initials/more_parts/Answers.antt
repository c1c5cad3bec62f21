use Rattle.std.proofs.Common.{rules}
use Rattle.phrase.proofs.Loops.{going_failed}
use Rattle.type_parse.proofs.initial.Initials.more_parts.Goals as goal

pub returns-in_err-list : goal.returns-in_err-list
returns-in_err-list g c = record { value = going_failed c.loop-turn.invariant c.in_err-list.field-0.0 _ (search rules) (search rules) (search rules) (search rules) }
