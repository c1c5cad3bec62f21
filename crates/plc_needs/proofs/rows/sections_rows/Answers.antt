use Rattle.plc_needs.specs.Rows.{section_rows}
use Rattle.plc_needs.proofs.Growing.{grows_on}
use Rattle.plc_needs.proofs.rows.sections_rows.Goals as goal

pub loop-section-preserved : goal.loop-section-preserved
loop-section-preserved c ds =
    grows_on ds section_rows c.args.sections.now c.loop-section.section-index c.section-item.result c.args.needs.now c.loop-section.needs c.section_rows.new.needs c.loop-section-test.true c.section-item.is (c.loop-section.invariant ds) (c.in_ok-section_rows.ensures ds)
