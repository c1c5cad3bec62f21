use Rattle.plc_names.specs.Needs.{section_needs}
use Rattle.plc_needs.proofs.Adding.{adds_on}
use Rattle.plc_needs.proofs.declarations.sections.Goals as goal

pub loop-s-preserved : goal.loop-s-preserved
loop-s-preserved c =
    adds_on c.args.scopes.now.declared section_needs c.args.sections.now c.loop-s.s-index c.s-item.result c.args.row.now.items c.loop-s.row.items c.section.new.row.items c.loop-s-test.true c.s-item.is c.loop-s.invariant c.in_ok-section.ensures
