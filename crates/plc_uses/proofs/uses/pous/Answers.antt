use Rattle.plc_base.proofs.LeastLaws.{meets_on}
use Rattle.plc_uses.specs.Faults as spec
use Rattle.plc_types.specs.Known.{world_of}
use Rattle.plc_uses.proofs.uses.pous.Goals as goal

pub loop-p-preserved : goal.loop-p-preserved
loop-p-preserved c = meets_on (spec.pou_faults c.args.forward (world_of c.args.known.now)) c.args.pous.now c.loop-p.p-index c.p-item.result c.args.met.now c.loop-p.met c.pou.new.met c.loop-p-test.true c.p-item.is c.loop-p.invariant c.pou.ensures
