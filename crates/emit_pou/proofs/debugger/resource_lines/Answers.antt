use Rattle.std.proofs.Common.{arith}
use Rattle.plc_tree.specs.Rows.{inst_rows}
use Rattle.emit_pou.proofs.Numbering.{room, grown}
use Rattle.emit_pou.proofs.debugger.resource_lines.Goals as goal

pub after-next-requires : goal.after-next-requires
after-next-requires c =
    let lt = rw c.as_slice-inst-items.ensures at c.loop-inst-test.true in
    let is = rw c.as_slice-inst-items.ensures at c.inst-item.is in
    omega (arith, c.requires, room (inst_rows c.args.unit.now c.args.resource.now) c.args.resource.now.insts c.loop-inst.inst-index c.inst-item.result lt is c.args.from c.loop-inst.items c.loop-inst.invariant)

pub program_lines-requires : goal.program_lines-requires
program_lines-requires c =
    let lt = rw c.as_slice-inst-items.ensures at c.loop-inst-test.true in
    let is = rw c.as_slice-inst-items.ensures at c.inst-item.is in
    omega (arith, c.requires, c.after-next.ensures, room (inst_rows c.args.unit.now c.args.resource.now) c.args.resource.now.insts c.loop-inst.inst-index c.inst-item.result lt is c.args.from c.loop-inst.items c.loop-inst.invariant)

pub loop-inst-preserved : goal.loop-inst-preserved
loop-inst-preserved c =
    let lt = rw c.as_slice-inst-items.ensures at c.loop-inst-test.true in
    let is = rw c.as_slice-inst-items.ensures at c.inst-item.is in
    grown (inst_rows c.args.unit.now c.args.resource.now) c.args.resource.now.insts c.loop-inst.inst-index c.inst-item.result lt is c.args.from c.after-next.result c.loop-inst.items c.in_ok-program_lines.field-0 c.append.new.self c.loop-inst.invariant
    c.after-next.ensures c.in_ok-program_lines.ensures c.in_ok-append.ensures
