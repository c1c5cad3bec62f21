use Rattle.std.proofs.Common.{[], ◌∷◌, ap, map, take, arith}
use Rattle.std.proofs.lemmas.List.{take_all}
use Rattle.plc_tree.specs.declared.tree.Id.{Id}
use Rattle.plc_typing.specs.Scope.{Variable, elem_of_spec}
use Rattle.plc_typing.proofs.Joining.{joined_as, joins_one}
use Rattle.plc_typing.proofs.scope.Scope.decl.Goals as goal

pub loop-id-preserved : goal.loop-id-preserved
loop-id-preserved c =
    let lt = rw c.as_slice-id-items.ensures at c.loop-id-test.true in
    let is = rw c.as_slice-id-items.ensures at c.id-item.is in
    joins_one c.args.decl.now.names c.loop-id.id-index c.id-item.result lt is c.args.self.now c.loop-id.self c.add.new.self
    (λ (n : Id). (n.name, elem_of_spec c.args.decl.now.spec)) c.loop-id.invariant
    (joined_as ((c.id-item.result.name, c.elem_of_spec.result) ∷ []) ((c.id-item.result.name, elem_of_spec c.args.decl.now.spec) ∷ []) c.loop-id.self c.add.new.self (ap (λ e. (c.id-item.result.name, e) ∷ []) c.elem_of_spec.ensures) c.in_ok-add.ensures)

pub returns : goal.returns
returns c =
    let f : Id → Variable = λ n. (n.name, elem_of_spec c.args.decl.now.spec) in
    let over = rw c.as_slice-id-items.ensures at c.loop-id-test.false in
    joined_as (map f (take c.loop-id.id-index c.args.decl.now.names)) (map f c.args.decl.now.names) c.args.self.now c.loop-id.self (ap (map f) (take_all c.loop-id.id-index c.args.decl.now.names (omega (arith, over)))) c.loop-id.invariant
