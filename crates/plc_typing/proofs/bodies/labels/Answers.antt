use Rattle.plc_base.proofs.LeastLaws.{meets_on}
use Rattle.plc_typing.specs.Uses.{label_faults}
use Rattle.plc_typing.proofs.bodies.labels.Goals as goal

pub loop-l-preserved : goal.loop-l-preserved
loop-l-preserved c = meets_on label_faults c.args.labels.now c.loop-l.l-index c.l-item.result c.args.met.now c.loop-l.met c.label.new.met c.loop-l-test.true c.l-item.is c.loop-l.invariant c.label.ensures
