use Rattle.std.proofs.Common.{take}
use Rattle.std.specs.List.{flat_map}
use Rattle.plc_names.specs.Needs.{member_needs}
use Rattle.plc_needs.specs.Row.{Adds}
use Rattle.plc_needs.proofs.declarations.members.Given as goal

abbrev pub invariant-loop-member : goal.invariant-loop-member
invariant-loop-member l = Adds l.scopes.declared (flat_map member_needs (take l.member-index l.members)) l.initial.row.items l.row.items
