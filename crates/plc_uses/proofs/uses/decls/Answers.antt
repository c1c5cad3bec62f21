use Rattle.plc_base.proofs.LeastLaws.{meets_on}
use Rattle.plc_uses.specs.Faults as spec
use Rattle.plc_types.specs.Known.{world_of}
use Rattle.plc_uses.proofs.uses.decls.Goals as goal

pub loop-d-preserved : goal.loop-d-preserved
loop-d-preserved c = meets_on (spec.decl_faults c.args.forward (world_of c.args.known.now) c.args.want) c.args.decls.now c.loop-d.d-index c.d-item.result c.args.met.now c.loop-d.met c.decl.new.met c.loop-d-test.true c.d-item.is c.loop-d.invariant c.decl.ensures
