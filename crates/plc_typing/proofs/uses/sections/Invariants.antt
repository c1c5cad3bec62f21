use Rattle.std.proofs.Common.{take}
use Rattle.std.specs.List.{flat_map}
use Rattle.plc_base.specs.Least.{Meets}
use Rattle.plc_typing.specs.Uses as spec
use Rattle.plc_typing.proofs.uses.sections.Given as goal

abbrev pub invariant-loop-s : goal.invariant-loop-s
invariant-loop-s l = Meets (flat_map spec.section_faults (take l.s-index l.sections)) l.initial.met l.met
