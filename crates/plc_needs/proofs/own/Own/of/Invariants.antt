use Rattle.std.proofs.Common.{[], take}
use Rattle.std.specs.List.{list_any}
use Rattle.plc_names.specs.Needs.{section_has}
use Rattle.plc_needs.specs.Own.{Joins}
use Rattle.plc_needs.proofs.own.Own.of.Given as goal

abbrev pub invariant-loop-section : goal.invariant-loop-section
invariant-loop-section l = Joins [] (λ name. list_any (section_has name) (take l.section-index l.sections)) l.own
