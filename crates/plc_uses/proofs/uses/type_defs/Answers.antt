use Rattle.plc_base.proofs.LeastLaws.{meets_on}
use Rattle.plc_uses.specs.Faults as spec
use Rattle.plc_types.specs.Known.{world_of}
use Rattle.plc_uses.proofs.uses.type_defs.Goals as goal

pub loop-def-preserved : goal.loop-def-preserved
loop-def-preserved c = meets_on (spec.type_faults c.args.forward (world_of c.args.known.now)) c.args.defs.now c.loop-def.def-index c.def-item.result c.args.met.now c.loop-def.met c.type_def.new.met c.loop-def-test.true c.def-item.is c.loop-def.invariant c.type_def.ensures
