use Rattle.std.proofs.Common.{List, take}
use Rattle.std.specs.List.{flat_map}
use Rattle.plc_names.specs.declared.declarations.Declaration.{Declaration}
use Rattle.plc_needs.specs.Rows.{Grows, section_rows}
use Rattle.plc_needs.proofs.rows.sections_rows.Given as goal

abbrev pub invariant-loop-section : goal.invariant-loop-section
invariant-loop-section l = (ds : List Declaration) → Grows ds (flat_map section_rows (take l.section-index l.sections)) l.initial.needs l.needs
