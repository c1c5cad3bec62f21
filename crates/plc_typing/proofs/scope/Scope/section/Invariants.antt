use Rattle.std.proofs.Common.{take}
use Rattle.std.specs.List.{flat_map}
use Rattle.plc_typing.specs.Scope.{IsJoined, decl_variables}
use Rattle.plc_typing.proofs.scope.Scope.section.Given as goal

abbrev pub invariant-loop-decl : goal.invariant-loop-decl
invariant-loop-decl l = IsJoined l.initial.self (flat_map decl_variables (take l.decl-index l.section.decls)) l.self
