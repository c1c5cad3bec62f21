use Rattle.std.proofs.Common.{take}
use Rattle.std.specs.List.{flat_map}
use Rattle.plc_base.specs.Least.{Meets}
use Rattle.plc_uses.specs.Faults as spec
use Rattle.plc_types.specs.Known.{world_of}
use Rattle.plc_uses.proofs.uses.members.Given as goal

abbrev pub invariant-loop-m : goal.invariant-loop-m
invariant-loop-m l = Meets (flat_map (spec.member_faults l.forward (world_of l.known)) (take l.m-index l.members)) l.initial.met l.met
