use Rattle.std.proofs.Common.{take}
use Rattle.std.specs.List.{flat_map}
use Rattle.plc_base.specs.Least.{Meets}
use Rattle.plc_uses.specs.Faults as spec
use Rattle.plc_types.specs.Known.{world_of}
use Rattle.plc_uses.proofs.uses.sections.Given as goal

abbrev pub invariant-loop-s : goal.invariant-loop-s
invariant-loop-s l = Meets (flat_map (spec.section_faults l.forward (world_of l.known) l.owner) (take l.s-index l.sections)) l.initial.met l.met
