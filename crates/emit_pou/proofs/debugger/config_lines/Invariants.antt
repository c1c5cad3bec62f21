use Rattle.std.proofs.Common.{◌≡◌, take}
use Rattle.std.specs.List.{flat_map}
use Rattle.plc_tree.specs.Rows.{resource_rows}
use Rattle.emit_pou.specs.Emitted.{debug_rows_from}
use Rattle.emit_pou.proofs.debugger.config_lines.Given as goal

abbrev pub invariant-loop-resource : goal.invariant-loop-resource
invariant-loop-resource l = l.items ≡ debug_rows_from l.from (flat_map (resource_rows l.unit) (take l.resource-index l.config.resources))
