use Rattle.plc_declared.proofs.Adding.{added_more}
use Rattle.plc_names.specs.Declarations.{OfInst}
use Rattle.plc_declared.proofs.row.Declared.insts.Goals as goal

pub loop-inst-preserved : goal.loop-inst-preserved
loop-inst-preserved c =
    added_more c.args.own c.args.self.now c.loop-inst.self c.add_inst.new.self c.args.insts.now c.loop-inst.inst-index c.inst-item.result (OfInst c.args.scope) c.loop-inst-test.true c.inst-item.is c.loop-inst.invariant c.in_ok-add_inst.ensures
