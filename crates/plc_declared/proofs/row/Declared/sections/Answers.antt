use Rattle.plc_declared.proofs.Adding.{added_on}
use Rattle.plc_names.specs.Declarations.{section_entries}
use Rattle.plc_declared.proofs.row.Declared.sections.Goals as goal

pub loop-section-preserved : goal.loop-section-preserved
loop-section-preserved c =
    added_on c.args.own c.args.self.now c.loop-section.self c.section.new.self c.args.sections.now c.loop-section.section-index c.section-item.result (section_entries c.args.scope) c.loop-section-test.true c.section-item.is c.loop-section.invariant c.in_ok-section.ensures
