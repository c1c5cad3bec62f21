use Rattle.std.proofs.Common.{take}
use Rattle.std.specs.List.{flat_map}
use Rattle.plc_typing.specs.Uses as spec
use Rattle.plc_typing.specs.UsesOfParts.{Declares}
use Rattle.plc_typing.proofs.names.sections.Given as goal

abbrev pub invariant-loop-s : goal.invariant-loop-s
invariant-loop-s l = Declares (flat_map spec.section_names (take l.s-index l.sections)) l.initial.numbers l.numbers l.initial.met l.met
