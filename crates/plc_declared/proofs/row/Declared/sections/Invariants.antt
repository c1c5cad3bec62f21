use Rattle.std.proofs.Common.{◌≡◌, take}
use Rattle.std.specs.List.{flat_map}
use Rattle.plc_names.specs.Declarations.{section_entries}
use Rattle.plc_declared.specs.Row.{added}
use Rattle.plc_declared.proofs.row.Declared.sections.Given as goal

abbrev pub invariant-loop-section : goal.invariant-loop-section
invariant-loop-section l = l.self ≡ added l.own l.initial.self (flat_map (section_entries l.scope) (take l.section-index l.sections))
