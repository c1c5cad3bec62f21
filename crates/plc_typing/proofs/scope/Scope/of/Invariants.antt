use Rattle.std.proofs.Common.{[], take}
use Rattle.std.specs.List.{flat_map}
use Rattle.plc_typing.specs.Scope.{IsJoined, section_variables}
use Rattle.plc_typing.proofs.scope.Scope.of.Given as goal

abbrev pub invariant-loop-section : goal.invariant-loop-section
invariant-loop-section l = IsJoined [] (flat_map section_variables (take l.section-index l.sections)) l.scope
