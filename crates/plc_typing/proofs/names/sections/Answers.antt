use Rattle.plc_typing.proofs.Declaring.{declares_on}
use Rattle.plc_typing.specs.Uses as spec
use Rattle.plc_typing.proofs.names.sections.Goals as goal

pub loop-s-preserved : goal.loop-s-preserved
loop-s-preserved c = declares_on spec.section_names c.args.sections.now c.loop-s.s-index c.s-item.result c.args.numbers.now c.loop-s.numbers c.section.new.numbers c.args.met.now c.loop-s.met c.section.new.met c.loop-s-test.true c.s-item.is c.loop-s.invariant c.in_ok-section.ensures
