use Rattle.plc_scopes.proofs.Repeating.{repeating_on, repeating_all}
use Rattle.plc_scopes.proofs.repeats.repeated_names.Goals as goal

pub loop-id-preserved : goal.loop-id-preserved
loop-id-preserved c =
    repeating_on c.args.rule c.args.ids.now c.loop-id.id-index c.id-item.result c.loop-id.words c.note.new.words c.args.met.now c.loop-id.met c.note.new.met c.loop-id-test.true c.id-item.is c.loop-id.invariant c.in_ok-note.ensures

pub returns : goal.returns
returns c = repeating_all c.args.rule c.args.ids.now c.loop-id.id-index c.loop-id.words c.args.met.now c.loop-id.met c.loop-id-test.false c.loop-id.invariant
