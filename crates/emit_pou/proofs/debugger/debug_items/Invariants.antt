use Rattle.std.proofs.Common.{◌≡◌, take}
use Rattle.std.specs.List.{flat_map}
use Rattle.plc_tree.specs.Rows.{config_rows}
use Rattle.emit_pou.specs.Emitted.{debug_rows_from}
use Rattle.emit_pou.proofs.debugger.debug_items.Given as goal

abbrev pub invariant-loop-config : goal.invariant-loop-config
invariant-loop-config l = l.items ≡ debug_rows_from 0 (flat_map (config_rows l.unit) (take l.config-index l.unit.configs))
