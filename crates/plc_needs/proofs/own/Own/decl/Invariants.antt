use Rattle.std.proofs.Common.{take}
use Rattle.std.specs.List.{list_any}
use Rattle.std.specs.Str.{bytes_eq}
use Rattle.plc_tree.specs.declared.tree.Id.{Id}
use Rattle.plc_needs.specs.Own.{Joins}
use Rattle.plc_needs.proofs.own.Own.decl.Given as goal

abbrev pub invariant-loop-id : goal.invariant-loop-id
invariant-loop-id l = Joins l.initial.self (λ name. list_any (λ (n : Id). bytes_eq name n.name) (take l.id-index l.decl.names)) l.self
