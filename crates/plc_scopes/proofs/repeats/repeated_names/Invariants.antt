use Rattle.plc_scopes.proofs.Repeating.{IsRepeating}
use Rattle.plc_scopes.proofs.repeats.repeated_names.Given as goal

abbrev pub invariant-loop-id : goal.invariant-loop-id
invariant-loop-id l = IsRepeating l.rule l.ids l.id-index l.words l.initial.met l.met
