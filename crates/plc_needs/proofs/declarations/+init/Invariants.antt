use Rattle.std.proofs.Common.{take}
use Rattle.std.specs.List.{flat_map}
use Rattle.plc_names.specs.Needs.{element_owners}
use Rattle.plc_needs.specs.Parts.{field_owners}
use Rattle.plc_needs.specs.Row.{Adds}
use Rattle.plc_needs.proofs.declarations.+init.Given as goal

abbrev pub invariant-elements-loop-item : goal.invariant-elements-loop-item
invariant-elements-loop-item l = Adds l.scopes.declared (flat_map element_owners (take l.item-index l.items)) l.initial.row.items l.row.items

abbrev pub invariant-fields-loop-part : goal.invariant-fields-loop-part
invariant-fields-loop-part l = Adds l.scopes.declared (flat_map field_owners (take l.part-index l.parts)) l.initial.row.items l.row.items
