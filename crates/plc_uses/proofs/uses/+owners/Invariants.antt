use Rattle.std.proofs.Common.{take}
use Rattle.std.specs.List.{flat_map}
use Rattle.plc_base.specs.Least.{Meets}
use Rattle.plc_uses.specs.Faults as spec
use Rattle.plc_types.specs.Known.{world_of}
use Rattle.plc_uses.proofs.uses.+owners.Given as goal

abbrev pub invariant-elements-loop-item : goal.invariant-elements-loop-item
invariant-elements-loop-item l = Meets (flat_map (spec.element_faults l.forward (world_of l.known)) (take l.item-index l.items)) l.initial.met l.met

abbrev pub invariant-parts-loop-part : goal.invariant-parts-loop-part
invariant-parts-loop-part l = Meets (flat_map (spec.part_faults l.forward (world_of l.known)) (take l.part-index l.parts)) l.initial.met l.met
