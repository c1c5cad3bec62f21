use Rattle.plc_base.proofs.LeastLaws.{meets_on}
use Rattle.plc_uses.specs.Faults as spec
use Rattle.plc_types.specs.Known.{world_of}
use Rattle.plc_uses.proofs.uses.resources.Goals as goal

pub loop-r-preserved : goal.loop-r-preserved
loop-r-preserved c = meets_on (spec.resource_faults c.args.forward (world_of c.args.known.now)) c.args.resources.now c.loop-r.r-index c.r-item.result c.args.met.now c.loop-r.met c.resource.new.met c.loop-r-test.true c.r-item.is c.loop-r.invariant c.resource.ensures
