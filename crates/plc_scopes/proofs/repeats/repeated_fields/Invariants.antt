use Rattle.std.proofs.Common.{map}
use Rattle.plc_names.specs.Rules.{field_name}
use Rattle.plc_scopes.proofs.Repeating.{IsRepeating}
use Rattle.plc_scopes.proofs.repeats.repeated_fields.Given as goal

abbrev pub invariant-loop-member : goal.invariant-loop-member
invariant-loop-member l = IsRepeating l.rule (map field_name l.members) l.member-index l.words l.initial.met l.met
