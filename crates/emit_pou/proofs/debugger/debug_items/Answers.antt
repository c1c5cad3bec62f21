use Rattle.std.proofs.Common.{arith}
use Rattle.plc_tree.specs.Rows.{config_rows}
use Rattle.emit_pou.proofs.Numbering.{room, grown}
use Rattle.emit_pou.proofs.debugger.debug_items.Goals as goal

pub after-next-requires : goal.after-next-requires
after-next-requires c =
    let lt = rw c.as_slice-config-items.ensures at c.loop-config-test.true in
    let is = rw c.as_slice-config-items.ensures at c.config-item.is in
    omega (arith, c.requires, room (config_rows c.args.unit.now) c.args.unit.now.configs c.loop-config.config-index c.config-item.result lt is 0 c.loop-config.items c.loop-config.invariant)

pub config_lines-requires : goal.config_lines-requires
config_lines-requires c =
    let lt = rw c.as_slice-config-items.ensures at c.loop-config-test.true in
    let is = rw c.as_slice-config-items.ensures at c.config-item.is in
    omega (arith, c.requires, c.after-next.ensures, room (config_rows c.args.unit.now) c.args.unit.now.configs c.loop-config.config-index c.config-item.result lt is 0 c.loop-config.items c.loop-config.invariant)

pub loop-config-preserved : goal.loop-config-preserved
loop-config-preserved c =
    let lt = rw c.as_slice-config-items.ensures at c.loop-config-test.true in
    let is = rw c.as_slice-config-items.ensures at c.config-item.is in
    grown (config_rows c.args.unit.now) c.args.unit.now.configs c.loop-config.config-index c.config-item.result lt is 0 c.after-next.result c.loop-config.items c.in_ok-config_lines.field-0 c.append.new.self c.loop-config.invariant
    c.after-next.ensures c.in_ok-config_lines.ensures c.in_ok-append.ensures
