use Rattle.plc_base.proofs.LeastLaws.{meets_on}
use Rattle.plc_uses.specs.Faults as spec
use Rattle.plc_types.specs.Known.{world_of}
use Rattle.plc_uses.proofs.uses.insts.Goals as goal

pub loop-i-preserved : goal.loop-i-preserved
loop-i-preserved c = meets_on (spec.inst_faults c.args.forward (world_of c.args.known.now)) c.args.insts.now c.loop-i.i-index c.i-item.result c.args.met.now c.loop-i.met c.inst.new.met c.loop-i-test.true c.i-item.is c.loop-i.invariant c.inst.ensures
