use Rattle.std.proofs.Common.{[]}
use Rattle.plc_tree.specs.declared.tree.Section.{Section}
use Rattle.plc_names.specs.Needs.{section_has}
use Rattle.plc_needs.proofs.Joining.{joins_on}
use Rattle.plc_needs.proofs.own.Own.of.Goals as goal

pub loop-section-preserved : goal.loop-section-preserved
loop-section-preserved c =
    joins_on (λ (s : Section) name. section_has name s) c.args.sections.now c.loop-section.section-index c.section-item.result [] c.loop-section.own c.section.new.self c.loop-section-test.true c.section-item.is c.loop-section.invariant c.in_ok-section.ensures
