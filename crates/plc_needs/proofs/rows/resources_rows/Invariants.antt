use Rattle.std.proofs.Common.{List, take}
use Rattle.std.specs.List.{flat_map}
use Rattle.plc_names.specs.declared.declarations.Declaration.{Declaration}
use Rattle.plc_needs.specs.Rows.{Grows, resource_rows}
use Rattle.plc_needs.proofs.rows.resources_rows.Given as goal

abbrev pub invariant-loop-resource : goal.invariant-loop-resource
invariant-loop-resource l = (ds : List Declaration) → Grows ds (flat_map resource_rows (take l.resource-index l.resources)) l.initial.needs l.needs
