use Rattle.std.proofs.Common.{◌≡◌, sym, ap, ◌∙◌}
use Rattle.std.proofs.lemmas.Result.{on_ok_weaker, IfOk-weaker}
use Rattle.plc_base.proofs.LeastLaws.{meets_as}
use Rattle.plc_tree.specs.declared.tree.Expr.{Paren, Unary, Binary}
use Rattle.plc_typing.specs.Nodes.{known, of_unary, of_binary, unary_faults, binary_faults}
use Rattle.plc_typing.specs.Scope.{types_of}
use Rattle.plc_typing.proofs.Nodes.{node_met, known-Paren, met-Paren, known-Unary, met-Unary, known-Binary, met-Binary}
use Rattle.plc_typing.proofs.plain.+expr.Goals as goal

pub returns-in-Paren-clause-known : goal.returns-in-Paren-clause-known
returns-in-Paren-clause-known t c =
    let types = types_of c.args.scope.now in
    let e = c.in-Paren in
    let same : known types c.get.result.now ≡ known types c.args.expr.now = ap (known types) c.get.ensures ∙ known-Paren types e.at e.inner ∙ ap (known types) (sym e.is) in
    IfOk-weaker c.plain_node.result (λ p. p ≡ known types c.get.result.now) (λ p. p ≡ known types c.args.expr.now) (λ p is. is ∙ same) c.plain_node.ensures.known

pub returns-in-Paren-clause-met : goal.returns-in-Paren-clause-met
returns-in-Paren-clause-met t c =
    let types = types_of c.args.scope.now in
    let e = c.in-Paren in
    let a = c.args.met.now in
    let b = c.plain_node.new.met in
    on_ok_weaker c.plain_node.result
    (λ h. node_met types (Paren e.at e.inner) c.args.expr.now a b (sym e.is) (met-Paren types e.at e.inner a b (node_met types c.get.result.now e.inner a b c.get.ensures h)))
    c.plain_node.ensures.met

pub returns-in_ok-inner-in-Unary-clause-known : goal.returns-in_ok-inner-in-Unary-clause-known
returns-in_ok-inner-in-Unary-clause-known t c =
    let types = types_of c.args.scope.now in
    let e = c.in-Unary in
    let inner : c.in_ok-inner-in-Unary.inner ≡ known types e.inner = c.in_ok-inner-in-Unary.ensures.known ∙ ap (known types) c.get-in-Unary.ensures in
    c.unary.ensures.known ∙ ap (of_unary e.op) inner ∙ known-Unary types e.op e.at e.inner ∙ ap (known types) (sym e.is)

pub returns-in_ok-inner-in-Unary-clause-met : goal.returns-in_ok-inner-in-Unary-clause-met
returns-in_ok-inner-in-Unary-clause-met t c =
    let types = types_of c.args.scope.now in
    let e = c.in-Unary in
    let a = c.args.met.now in
    let b = c.plain_node-in-Unary.new.met in
    let d = c.unary.new.met in
    let inner : c.in_ok-inner-in-Unary.inner ≡ known types e.inner = c.in_ok-inner-in-Unary.ensures.known ∙ ap (known types) c.get-in-Unary.ensures in
    node_met types (Unary e.op e.at e.inner) c.args.expr.now a d (sym e.is)
    (met-Unary types e.op e.at e.inner a b d
    (node_met types c.get-in-Unary.result.now e.inner a b c.get-in-Unary.ensures c.in_ok-inner-in-Unary.ensures.met)
    (meets_as (unary_faults e.op e.at c.in_ok-inner-in-Unary.inner) (unary_faults e.op e.at (known types e.inner)) b d (ap (unary_faults e.op e.at) inner) c.unary.ensures.met))

pub returns-in_ok-right-in-Binary-clause-known : goal.returns-in_ok-right-in-Binary-clause-known
returns-in_ok-right-in-Binary-clause-known t c =
    let types = types_of c.args.scope.now in
    let e = c.in-Binary in
    let left : c.in_ok-left-in-Binary.left ≡ known types e.left = c.in_ok-left-in-Binary.ensures.known ∙ ap (known types) c.get-in-Binary.ensures in
    let right : c.in_ok-right-in-Binary.right ≡ known types e.right = c.in_ok-right-in-Binary.ensures.known ∙ ap (known types) c.get-in-Binary-2.ensures in
    c.binary.ensures.known ∙ (λ i. of_binary e.op (left i) (right i)) ∙ known-Binary types e.op e.at e.left e.right ∙ ap (known types) (sym e.is)

pub returns-in_ok-right-in-Binary-clause-met : goal.returns-in_ok-right-in-Binary-clause-met
returns-in_ok-right-in-Binary-clause-met t c =
    let types = types_of c.args.scope.now in
    let e = c.in-Binary in
    let a = c.args.met.now in
    let b = c.plain_node-in-Binary.new.met in
    let d = c.plain_node-in-Binary-2.new.met in
    let z = c.binary.new.met in
    let p = c.in_ok-left-in-Binary.left in
    let q = c.in_ok-right-in-Binary.right in
    let left : p ≡ known types e.left = c.in_ok-left-in-Binary.ensures.known ∙ ap (known types) c.get-in-Binary.ensures in
    let right : q ≡ known types e.right = c.in_ok-right-in-Binary.ensures.known ∙ ap (known types) c.get-in-Binary-2.ensures in
    node_met types (Binary e.op e.at e.left e.right) c.args.expr.now a z (sym e.is)
    (met-Binary types e.op e.at e.left e.right a b d z
    (node_met types c.get-in-Binary.result.now e.left a b c.get-in-Binary.ensures c.in_ok-left-in-Binary.ensures.met)
    (node_met types c.get-in-Binary-2.result.now e.right b d c.get-in-Binary-2.ensures c.in_ok-right-in-Binary.ensures.met)
    (meets_as (binary_faults e.op e.at p q) (binary_faults e.op e.at (known types e.left) (known types e.right)) d z (λ i. binary_faults e.op e.at (left i) (right i)) c.binary.ensures.met))
