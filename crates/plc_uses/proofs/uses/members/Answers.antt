use Rattle.plc_base.proofs.LeastLaws.{meets_on}
use Rattle.plc_uses.specs.Faults as spec
use Rattle.plc_types.specs.Known.{world_of}
use Rattle.plc_uses.proofs.uses.members.Goals as goal

pub loop-m-preserved : goal.loop-m-preserved
loop-m-preserved c = meets_on (spec.member_faults c.args.forward (world_of c.args.known.now)) c.args.members.now c.loop-m.m-index c.m-item.result c.args.met.now c.loop-m.met c.start.new.met c.loop-m-test.true c.m-item.is c.loop-m.invariant c.start.ensures
