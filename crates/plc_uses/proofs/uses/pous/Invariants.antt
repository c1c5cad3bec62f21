use Rattle.std.proofs.Common.{take}
use Rattle.std.specs.List.{flat_map}
use Rattle.plc_base.specs.Least.{Meets}
use Rattle.plc_uses.specs.Faults as spec
use Rattle.plc_types.specs.Known.{world_of}
use Rattle.plc_uses.proofs.uses.pous.Given as goal

abbrev pub invariant-loop-p : goal.invariant-loop-p
invariant-loop-p l = Meets (flat_map (spec.pou_faults l.forward (world_of l.known)) (take l.p-index l.pous)) l.initial.met l.met
