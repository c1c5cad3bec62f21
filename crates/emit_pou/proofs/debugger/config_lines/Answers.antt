use Rattle.std.proofs.Common.{arith}
use Rattle.plc_tree.specs.Rows.{resource_rows}
use Rattle.emit_pou.proofs.Numbering.{room, grown}
use Rattle.emit_pou.proofs.debugger.config_lines.Goals as goal

pub after-next-requires : goal.after-next-requires
after-next-requires c =
    let lt = rw c.as_slice-resource-items.ensures at c.loop-resource-test.true in
    let is = rw c.as_slice-resource-items.ensures at c.resource-item.is in
    omega (arith, c.requires, room (resource_rows c.args.unit.now) c.args.config.now.resources c.loop-resource.resource-index c.resource-item.result lt is c.args.from c.loop-resource.items c.loop-resource.invariant)

pub resource_lines-requires : goal.resource_lines-requires
resource_lines-requires c =
    let lt = rw c.as_slice-resource-items.ensures at c.loop-resource-test.true in
    let is = rw c.as_slice-resource-items.ensures at c.resource-item.is in
    omega (arith, c.requires, c.after-next.ensures, room (resource_rows c.args.unit.now) c.args.config.now.resources c.loop-resource.resource-index c.resource-item.result lt is c.args.from c.loop-resource.items c.loop-resource.invariant)

pub loop-resource-preserved : goal.loop-resource-preserved
loop-resource-preserved c =
    let lt = rw c.as_slice-resource-items.ensures at c.loop-resource-test.true in
    let is = rw c.as_slice-resource-items.ensures at c.resource-item.is in
    grown (resource_rows c.args.unit.now) c.args.config.now.resources c.loop-resource.resource-index c.resource-item.result lt is c.args.from c.after-next.result c.loop-resource.items c.in_ok-resource_lines.field-0 c.append.new.self c.loop-resource.invariant
    c.after-next.ensures c.in_ok-resource_lines.ensures c.in_ok-append.ensures
