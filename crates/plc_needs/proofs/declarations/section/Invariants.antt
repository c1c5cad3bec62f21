use Rattle.std.proofs.Common.{take}
use Rattle.std.specs.List.{flat_map}
use Rattle.plc_names.specs.Needs.{decl_needs}
use Rattle.plc_needs.specs.Row.{Adds}
use Rattle.plc_needs.proofs.declarations.section.Given as goal

abbrev pub invariant-loop-decl : goal.invariant-loop-decl
invariant-loop-decl l = Adds l.scopes.declared (flat_map decl_needs (take l.decl-index l.section.decls)) l.initial.row.items l.row.items
