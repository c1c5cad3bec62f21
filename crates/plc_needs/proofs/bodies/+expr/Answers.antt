use Rattle.std.proofs.Common.{[], ◌∷◌, ◌++◌, refl}
use Rattle.std.specs.List.{flat_map}
use Rattle.std.proofs.lemmas.Result.{on_ok_weaker}
use Rattle.plc_tree.specs.declared.tree.Arg as in_arg
use Rattle.plc_tree.specs.declared.tree.Expr as e
use Rattle.plc_tree.specs.declared.tree.Part as in_part
use Rattle.plc_names.specs.Needs.{called, expr_needs, part_needs, arg_needs}
use Rattle.plc_needs.specs.Own.{has}
use Rattle.plc_needs.proofs.Adding.{adds_next, adds_of, adds_each, adds_with, adds_on}
use Rattle.plc_needs.proofs.Views.{needs-Var, needs-Paren, needs-Unary, needs-Binary, needs-Call, needs-Index, needs-Out}
use Rattle.plc_needs.proofs.bodies.+expr.Goals as goal

-- ---- lists

pub exprs-loop-e-preserved : goal.exprs-loop-e-preserved
exprs-loop-e-preserved t c =
    adds_on c.args.scopes.now.declared (expr_needs (has c.args.own.now)) c.args.exprs.now c.loop-e.e-index c.e-item.result c.args.row.now.items c.loop-e.row.items c.expr.new.row.items c.loop-e-test.true c.e-item.is c.loop-e.invariant c.in_ok-expr.ensures

pub parts-loop-p-preserved : goal.parts-loop-p-preserved
parts-loop-p-preserved t c =
    adds_on c.args.scopes.now.declared (part_needs (has c.args.own.now)) c.args.parts.now c.loop-p.p-index c.p-item.result c.args.row.now.items c.loop-p.row.items c.part.new.row.items c.loop-p-test.true c.p-item.is c.loop-p.invariant c.in_ok-part.ensures

pub args-loop-a-preserved : goal.args-loop-a-preserved
args-loop-a-preserved t c =
    adds_on c.args.scopes.now.declared (arg_needs (has c.args.own.now)) c.args.args.now c.loop-a.a-index c.a-item.result c.args.row.now.items c.loop-a.row.items c.arg.new.row.items c.loop-a-test.true c.a-item.is c.loop-a.invariant c.in_ok-arg.ensures

-- ---- expressions

pub expr-returns-in-Value : goal.expr-returns-in-Value
expr-returns-in-Value t c =
    let x = c.in-Value in
    adds_with c.args.scopes.now.declared (expr_needs (has c.args.own.now)) c.args.expr.now (e.Value x.owner x.name x.at x.name_at) (record { name = x.owner; at = x.at } ∷ []) c.need.result c.args.row.now.items c.need.new.row.items x.is refl
    (on_ok_weaker c.need.result (λ h. h x.at) c.need.ensures)

pub expr-returns-in-Var : goal.expr-returns-in-Var
expr-returns-in-Var t c =
    let ds = c.args.scopes.now.declared in
    let own = has c.args.own.now in
    let p = c.in-Var.path in
    let a = c.args.row.now.items in
    let b = c.parts.new.row.items in
    adds_with ds (expr_needs own) c.args.expr.now (e.Var p) (flat_map (part_needs own) p.parts) c.parts.result a b c.in-Var.is (needs-Var own p)
    (on_ok_weaker c.parts.result (adds_each ds (part_needs own) c.as_slice.result.now p.parts a b c.as_slice.ensures) c.parts.ensures)

pub expr-returns-in-Paren : goal.expr-returns-in-Paren
expr-returns-in-Paren t c =
    let ds = c.args.scopes.now.declared in
    let own = has c.args.own.now in
    let x = c.in-Paren in
    let a = c.args.row.now.items in
    let b = c.expr.new.row.items in
    adds_with ds (expr_needs own) c.args.expr.now (e.Paren x.at x.inner) (expr_needs own x.inner) c.expr.result a b x.is (needs-Paren own x.at x.inner)
    (on_ok_weaker c.expr.result (adds_of ds (expr_needs own) c.get.result.now x.inner a b c.get.ensures) c.expr.ensures)

pub expr-returns-in-Unary : goal.expr-returns-in-Unary
expr-returns-in-Unary t c =
    let ds = c.args.scopes.now.declared in
    let own = has c.args.own.now in
    let x = c.in-Unary in
    let a = c.args.row.now.items in
    let b = c.expr-in-Unary.new.row.items in
    adds_with ds (expr_needs own) c.args.expr.now (e.Unary x.op x.at x.inner) (expr_needs own x.inner) c.expr-in-Unary.result a b x.is (needs-Unary own x.op x.at x.inner)
    (on_ok_weaker c.expr-in-Unary.result (adds_of ds (expr_needs own) c.get-in-Unary.result.now x.inner a b c.get-in-Unary.ensures) c.expr-in-Unary.ensures)

pub expr-returns-in_ok-expr-in-Binary : goal.expr-returns-in_ok-expr-in-Binary
expr-returns-in_ok-expr-in-Binary t c =
    let ds = c.args.scopes.now.declared in
    let own = has c.args.own.now in
    let x = c.in-Binary in
    let a = c.args.row.now.items in
    let b = c.expr-in-Binary.new.row.items in
    let d = c.expr-in-Binary-2.new.row.items in
    let left = expr_needs own x.left in
    let right = expr_needs own x.right in
    let r = c.expr-in-Binary-2.result in
    adds_with ds (expr_needs own) c.args.expr.now (e.Binary x.op x.at x.left x.right) (left ++ right) r a d x.is (needs-Binary own x.op x.at x.left x.right)
    (adds_next ds r left right a b d (adds_of ds (expr_needs own) c.get-in-Binary.result.now x.left a b c.get-in-Binary.ensures c.in_ok-expr-in-Binary.ensures)
    (on_ok_weaker r (adds_of ds (expr_needs own) c.get-in-Binary-2.result.now x.right b d c.get-in-Binary-2.ensures) c.expr-in-Binary-2.ensures))

pub expr-returns-in_ok-call-in-Call : goal.expr-returns-in_ok-call-in-Call
expr-returns-in_ok-call-in-Call t c =
    let ds = c.args.scopes.now.declared in
    let own = has c.args.own.now in
    let x = c.in-Call in
    let a = c.args.row.now.items in
    let b = c.call.new.row.items in
    let d = c.args-in-Call.new.row.items in
    let name = called own x.name x.at in
    let list = flat_map (arg_needs own) x.args in
    let r = c.args-in-Call.result in
    adds_with ds (expr_needs own) c.args.expr.now (e.Call x.name x.at x.args) (name ++ list) r a d x.is (needs-Call own x.name x.at x.args)
    (adds_next ds r name list a b d (c.in_ok-call-in-Call.ensures x.at)
    (on_ok_weaker r (adds_each ds (arg_needs own) c.as_slice-in-Call.result.now x.args b d c.as_slice-in-Call.ensures) c.args-in-Call.ensures))

-- ---- parts and arguments

pub part-returns-in-Index : goal.part-returns-in-Index
part-returns-in-Index t c =
    let ds = c.args.scopes.now.declared in
    let own = has c.args.own.now in
    let x = c.in-Index in
    let a = c.args.row.now.items in
    let b = c.exprs.new.row.items in
    adds_with ds (part_needs own) c.args.part.now (in_part.Index x.list x.at) (flat_map (expr_needs own) x.list) c.exprs.result a b x.is (needs-Index own x.list x.at)
    (on_ok_weaker c.exprs.result (adds_each ds (expr_needs own) c.as_slice.result.now x.list a b c.as_slice.ensures) c.exprs.ensures)

pub arg-returns-in-Out : goal.arg-returns-in-Out
arg-returns-in-Out t c =
    let ds = c.args.scopes.now.declared in
    let own = has c.args.own.now in
    let x = c.in-Out in
    let a = c.args.row.now.items in
    let b = c.parts.new.row.items in
    adds_with ds (arg_needs own) c.args.arg.now (in_arg.Out x.negate x.name x.at x.to) (flat_map (part_needs own) x.to.parts) c.parts.result a b x.is (needs-Out own x.negate x.name x.at x.to)
    (on_ok_weaker c.parts.result (adds_each ds (part_needs own) c.as_slice.result.now x.to.parts a b c.as_slice.ensures) c.parts.ensures)
