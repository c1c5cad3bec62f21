use Rattle.std.proofs.Common.{arith}
use Rattle.plc_tree.specs.Rows.{var_row}
use Rattle.emit_pou.proofs.Numbering.{next_row}
use Rattle.emit_pou.proofs.debugger.inst_lines.Goals as goal

pub loop-var-preserved : goal.loop-var-preserved
loop-var-preserved c =
    let pushed = c.in_ok-push.ensures in (
      next_row (var_row c.args.resource.now c.args.inst.now) c.args.vars.now c.args.from c.loop-var.var-index c.loop-var.number c.var-item.result c.loop-var.items c.push.new.self c.in_ok-debug_row.field-0
          c.loop-var-test.true c.var-item.is c.loop-var.invariant.0 c.loop-var.invariant.1 c.in_ok-debug_row.ensures pushed.ok,
      omega (arith, c.loop-var.invariant.1),
    )
