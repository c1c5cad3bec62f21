use Rattle.std.proofs.Common.{take}
use Rattle.std.specs.List.{flat_map}
use Rattle.plc_base.specs.Least.{Meets}
use Rattle.plc_typing.specs.Uses.{label_faults}
use Rattle.plc_typing.proofs.bodies.labels.Given as goal

abbrev pub invariant-loop-l : goal.invariant-loop-l
invariant-loop-l l = Meets (flat_map label_faults (take l.l-index l.labels)) l.initial.met l.met
