use Rattle.std.proofs.Common.{take}
use Rattle.std.specs.List.{flat_map}
use Rattle.plc_typing.specs.UsesOfParts.{Declares}
use Rattle.plc_typing.proofs.names.section.Given as goal

abbrev pub invariant-loop-decl : goal.invariant-loop-decl
invariant-loop-decl l = Declares (flat_map (λ d. d.names) (take l.decl-index l.section.decls)) l.initial.numbers l.numbers l.initial.met l.met
