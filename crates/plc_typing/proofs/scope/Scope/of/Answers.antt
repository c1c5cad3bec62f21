use Rattle.std.proofs.Common.{[]}
use Rattle.plc_typing.specs.Scope.{section_variables}
use Rattle.plc_typing.proofs.Joining.{joins_on}
use Rattle.plc_typing.proofs.scope.Scope.of.Goals as goal

pub loop-section-preserved : goal.loop-section-preserved
loop-section-preserved c =
    joins_on c.args.sections.now c.loop-section.section-index c.section-item.result c.loop-section-test.true c.section-item.is [] c.loop-section.scope c.section.new.self section_variables c.loop-section.invariant c.in_ok-section.ensures
