use Rattle.std.proofs.Common.{map, take}
use Rattle.plc_tree.specs.declared.tree.Id.{Id}
use Rattle.plc_typing.specs.Scope.{IsJoined, elem_of_spec}
use Rattle.plc_typing.proofs.scope.Scope.decl.Given as goal

abbrev pub invariant-loop-id : goal.invariant-loop-id
invariant-loop-id l = IsJoined l.initial.self (map (λ (n : Id). (n.name, elem_of_spec l.decl.spec)) (take l.id-index l.decl.names)) l.self
