use Rattle.std.proofs.Common.{◌≡◌, ◌+◌, map, take}
use Rattle.plc_tree.specs.Rows.{var_row}
use Rattle.emit_pou.specs.Emitted.{debug_rows_from}
use Rattle.emit_pou.proofs.debugger.inst_lines.Given as goal

abbrev pub invariant-loop-var : goal.invariant-loop-var
invariant-loop-var l = (l.items ≡ debug_rows_from l.from (map (var_row l.resource l.inst) (take l.var-index l.vars))) × (l.number ≡ l.from + l.var-index)
