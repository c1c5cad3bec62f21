use Rattle.plc_base.proofs.LeastLaws.{meets_on}
use Rattle.plc_uses.specs.Faults as spec
use Rattle.plc_types.specs.Known.{world_of}
use Rattle.plc_uses.proofs.uses.sections.Goals as goal

pub loop-s-preserved : goal.loop-s-preserved
loop-s-preserved c = meets_on (spec.section_faults c.args.forward (world_of c.args.known.now) c.args.owner) c.args.sections.now c.loop-s.s-index c.s-item.result c.args.met.now c.loop-s.met c.section.new.met c.loop-s-test.true c.s-item.is c.loop-s.invariant c.section.ensures
