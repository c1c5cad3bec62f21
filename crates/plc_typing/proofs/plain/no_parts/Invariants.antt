use Rattle.std.proofs.Common.{take}
use Rattle.std.specs.List.{flat_map}
use Rattle.plc_base.specs.Least.{Meets}
use Rattle.plc_typing.specs.Uses.{part_faults}
use Rattle.plc_typing.proofs.plain.no_parts.Given as goal

abbrev pub invariant-loop-part : goal.invariant-loop-part
invariant-loop-part l = Meets (flat_map part_faults (take l.part-index l.parts)) l.initial.met l.met
