use Rattle.plc_names.specs.Needs.{label_needs}
use Rattle.plc_needs.proofs.Adding.{adds_on}
use Rattle.plc_needs.proofs.bodies.labels.Goals as goal

pub loop-l-preserved : goal.loop-l-preserved
loop-l-preserved c =
    adds_on c.args.scopes.now.declared label_needs c.args.labels.now c.loop-l.l-index c.l-item.result c.args.row.now.items c.loop-l.row.items c.label.new.row.items c.loop-l-test.true c.l-item.is c.loop-l.invariant c.in_ok-label.ensures
