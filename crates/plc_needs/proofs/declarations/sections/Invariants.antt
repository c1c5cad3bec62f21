use Rattle.std.proofs.Common.{take}
use Rattle.std.specs.List.{flat_map}
use Rattle.plc_names.specs.Needs.{section_needs}
use Rattle.plc_needs.specs.Row.{Adds}
use Rattle.plc_needs.proofs.declarations.sections.Given as goal

abbrev pub invariant-loop-s : goal.invariant-loop-s
invariant-loop-s l = Adds l.scopes.declared (flat_map section_needs (take l.s-index l.sections)) l.initial.row.items l.row.items
