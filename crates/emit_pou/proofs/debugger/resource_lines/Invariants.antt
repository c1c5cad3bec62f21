use Rattle.std.proofs.Common.{◌≡◌, take}
use Rattle.std.specs.List.{flat_map}
use Rattle.plc_tree.specs.Rows.{inst_rows}
use Rattle.emit_pou.specs.Emitted.{debug_rows_from}
use Rattle.emit_pou.proofs.debugger.resource_lines.Given as goal

abbrev pub invariant-loop-inst : goal.invariant-loop-inst
invariant-loop-inst l = l.items ≡ debug_rows_from l.from (flat_map (inst_rows l.unit l.resource) (take l.inst-index l.resource.insts))
