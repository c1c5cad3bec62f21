use Rattle.std.proofs.Common.{take}
use Rattle.plc_typing.specs.UsesOfParts.{Declares}
use Rattle.plc_typing.proofs.names.ids.Given as goal

abbrev pub invariant-loop-id : goal.invariant-loop-id
invariant-loop-id l = Declares (take l.id-index l.ids) l.initial.numbers l.numbers l.initial.met l.met
