use Rattle.std.proofs.Common.{List, take}
use Rattle.std.specs.List.{flat_map}
use Rattle.plc_names.specs.declared.declarations.Declaration.{Declaration}
use Rattle.plc_needs.specs.Rows.{Grows, decl_rows}
use Rattle.plc_needs.proofs.rows.section_rows.Given as goal

abbrev pub invariant-loop-decl : goal.invariant-loop-decl
invariant-loop-decl l = (ds : List Declaration) → Grows ds (flat_map decl_rows (take l.decl-index l.section.decls)) l.initial.needs l.needs
