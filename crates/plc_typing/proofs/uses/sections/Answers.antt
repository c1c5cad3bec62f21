use Rattle.plc_base.proofs.LeastLaws.{meets_on}
use Rattle.plc_typing.specs.Uses as spec
use Rattle.plc_typing.proofs.uses.sections.Goals as goal

pub loop-s-preserved : goal.loop-s-preserved
loop-s-preserved c = meets_on spec.section_faults c.args.sections.now c.loop-s.s-index c.s-item.result c.args.met.now c.loop-s.met c.section.new.met c.loop-s-test.true c.s-item.is c.loop-s.invariant c.section.ensures
