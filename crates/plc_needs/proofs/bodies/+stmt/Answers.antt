use Rattle.std.proofs.Common.{◌++◌, refl}
use Rattle.std.specs.List.{flat_map}
use Rattle.std.proofs.lemmas.Result.{on_ok_weaker}
use Rattle.plc_tree.specs.declared.tree.Stmt as stmt
use Rattle.plc_names.specs.Needs.{path_needs, expr_needs, label_needs, stmt_needs}
use Rattle.plc_needs.specs.Own.{has}
use Rattle.plc_needs.specs.Parts.{for_needs, arm_needs, choice_needs}
use Rattle.plc_needs.proofs.Adding.{adds_then, adds_next, adds_each, adds_with, adds_on}
use Rattle.plc_needs.proofs.Views.{needs-If, needs-Case, needs-For, needs-While, needs-Repeat}
use Rattle.plc_needs.proofs.bodies.+stmt.Goals as goal

-- ---- lists

pub arms-loop-arm-preserved : goal.arms-loop-arm-preserved
arms-loop-arm-preserved t c =
    let ds = c.args.scopes.now.declared in
    let own = has c.args.own.now in
    let arm = c.arm-item.result in
    let a = c.loop-arm.row.items in
    let b = c.expr.new.row.items in
    let d = c.stmts.new.row.items in
    let body = adds_each ds (stmt_needs own) c.as_slice.result.now arm.body b d c.as_slice.ensures c.in_ok-stmts.ensures in
    adds_on ds (arm_needs own) c.args.arms.now c.loop-arm.arm-index arm c.args.row.now.items a d c.loop-arm-test.true c.arm-item.is c.loop-arm.invariant
    (adds_then ds (expr_needs own arm.test) (flat_map (stmt_needs own) arm.body) a b d c.in_ok-expr.ensures body)

pub choices-loop-choice-preserved : goal.choices-loop-choice-preserved
choices-loop-choice-preserved t c =
    let ds = c.args.scopes.now.declared in
    let own = has c.args.own.now in
    let choice = c.choice-item.result in
    let a = c.loop-choice.row.items in
    let b = c.labels.new.row.items in
    let d = c.stmts.new.row.items in
    let labels = adds_each ds label_needs c.as_slice.result.now choice.labels a b c.as_slice.ensures c.in_ok-labels.ensures in
    let body = adds_each ds (stmt_needs own) c.as_slice-in-loop-choice.result.now choice.body b d c.as_slice-in-loop-choice.ensures c.in_ok-stmts.ensures in
    adds_on ds (choice_needs own) c.args.choices.now c.loop-choice.choice-index choice c.args.row.now.items a d c.loop-choice-test.true c.choice-item.is c.loop-choice.invariant
    (adds_then ds (flat_map label_needs choice.labels) (flat_map (stmt_needs own) choice.body) a b d labels body)

pub stmts-loop-s-preserved : goal.stmts-loop-s-preserved
stmts-loop-s-preserved t c =
    adds_on c.args.scopes.now.declared (stmt_needs (has c.args.own.now)) c.args.stmts.now c.loop-s.s-index c.s-item.result c.args.row.now.items c.loop-s.row.items c.stmt.new.row.items c.loop-s-test.true c.s-item.is c.loop-s.invariant c.in_ok-stmt.ensures

-- ---- statements

pub stmt-returns-in_ok-path-in-Set : goal.stmt-returns-in_ok-path-in-Set
stmt-returns-in_ok-path-in-Set t c =
    let ds = c.args.scopes.now.declared in
    let own = has c.args.own.now in
    let x = c.in-Set in
    let a = c.args.row.now.items in
    let b = c.path.new.row.items in
    let d = c.expr.new.row.items in
    let to = path_needs own x.to in
    let from = expr_needs own x.from in
    adds_with ds (stmt_needs own) c.args.stmt.now (stmt.Set x.to x.from) (to ++ from) c.expr.result a d x.is refl
    (adds_next ds c.expr.result to from a b d c.in_ok-path-in-Set.ensures c.expr.ensures)

pub stmt-returns-in_ok-arms-in-If : goal.stmt-returns-in_ok-arms-in-If
stmt-returns-in_ok-arms-in-If t c =
    let ds = c.args.scopes.now.declared in
    let own = has c.args.own.now in
    let x = c.in-If in
    let a = c.args.row.now.items in
    let b = c.arms.new.row.items in
    let d = c.stmts.new.row.items in
    let arms = flat_map (arm_needs own) x.arms in
    let other = flat_map (stmt_needs own) x.other in
    let r = c.stmts.result in
    adds_with ds (stmt_needs own) c.args.stmt.now (stmt.If x.arms x.other) (arms ++ other) r a d x.is (needs-If own x.arms x.other)
    (adds_next ds r arms other a b d (adds_each ds (arm_needs own) c.as_slice-in-If.result.now x.arms a b c.as_slice-in-If.ensures c.in_ok-arms-in-If.ensures)
    (on_ok_weaker r (adds_each ds (stmt_needs own) c.as_slice-in-If-2.result.now x.other b d c.as_slice-in-If-2.ensures) c.stmts.ensures))

pub stmt-returns-in_ok-choices-in-Case : goal.stmt-returns-in_ok-choices-in-Case
stmt-returns-in_ok-choices-in-Case t c =
    let ds = c.args.scopes.now.declared in
    let own = has c.args.own.now in
    let x = c.in-Case in
    let a = c.args.row.now.items in
    let b = c.expr-in-Case.new.row.items in
    let d = c.choices.new.row.items in
    let z = c.stmts-in-Case.new.row.items in
    let pick = expr_needs own x.pick in
    let arms = flat_map (choice_needs own) x.arms in
    let other = flat_map (stmt_needs own) x.other in
    let r = c.stmts-in-Case.result in
    adds_with ds (stmt_needs own) c.args.stmt.now (stmt.Case x.pick x.arms x.other) (pick ++ (arms ++ other)) r a z x.is (needs-Case own x.pick x.arms x.other)
    (adds_next ds r pick (arms ++ other) a b z c.in_ok-expr-in-Case.ensures
    (adds_next ds r arms other b d z (adds_each ds (choice_needs own) c.as_slice-in-Case.result.now x.arms b d c.as_slice-in-Case.ensures c.in_ok-choices-in-Case.ensures)
    (on_ok_weaker r (adds_each ds (stmt_needs own) c.as_slice-in-Case-2.result.now x.other d z c.as_slice-in-Case-2.ensures) c.stmts-in-Case.ensures)))

pub stmt-returns-in_ok-for_head-in-For : goal.stmt-returns-in_ok-for_head-in-For
stmt-returns-in_ok-for_head-in-For t c =
    let ds = c.args.scopes.now.declared in
    let own = has c.args.own.now in
    let x = c.in-For in
    let a = c.args.row.now.items in
    let b = c.for_head.new.row.items in
    let d = c.stmts-in-For.new.row.items in
    let head = for_needs own x.var x.start x.limit x.step in
    let body = flat_map (stmt_needs own) x.body in
    let r = c.stmts-in-For.result in
    adds_with ds (stmt_needs own) c.args.stmt.now (stmt.For x.var x.start x.limit x.step x.body) (head ++ body) r a d x.is (needs-For own x.var x.start x.limit x.step x.body)
    (adds_next ds r head body a b d c.in_ok-for_head-in-For.ensures
    (on_ok_weaker r (adds_each ds (stmt_needs own) c.as_slice-in-For.result.now x.body b d c.as_slice-in-For.ensures) c.stmts-in-For.ensures))

pub stmt-returns-in_ok-expr-in-While : goal.stmt-returns-in_ok-expr-in-While
stmt-returns-in_ok-expr-in-While t c =
    let ds = c.args.scopes.now.declared in
    let own = has c.args.own.now in
    let x = c.in-While in
    let a = c.args.row.now.items in
    let b = c.expr-in-While.new.row.items in
    let d = c.stmts-in-While.new.row.items in
    let test = expr_needs own x.test in
    let body = flat_map (stmt_needs own) x.body in
    let r = c.stmts-in-While.result in
    adds_with ds (stmt_needs own) c.args.stmt.now (stmt.While x.test x.body) (test ++ body) r a d x.is (needs-While own x.test x.body)
    (adds_next ds r test body a b d c.in_ok-expr-in-While.ensures
    (on_ok_weaker r (adds_each ds (stmt_needs own) c.as_slice-in-While.result.now x.body b d c.as_slice-in-While.ensures) c.stmts-in-While.ensures))

pub stmt-returns-in_ok-stmts-in-Repeat : goal.stmt-returns-in_ok-stmts-in-Repeat
stmt-returns-in_ok-stmts-in-Repeat t c =
    let ds = c.args.scopes.now.declared in
    let own = has c.args.own.now in
    let x = c.in-Repeat in
    let a = c.args.row.now.items in
    let b = c.stmts-in-Repeat.new.row.items in
    let d = c.expr-in-Repeat.new.row.items in
    let test = expr_needs own x.test in
    let body = flat_map (stmt_needs own) x.body in
    let r = c.expr-in-Repeat.result in
    adds_with ds (stmt_needs own) c.args.stmt.now (stmt.Repeat x.body x.test) (body ++ test) r a d x.is (needs-Repeat own x.body x.test)
    (adds_next ds r body test a b d (adds_each ds (stmt_needs own) c.as_slice-in-Repeat.result.now x.body a b c.as_slice-in-Repeat.ensures c.in_ok-stmts-in-Repeat.ensures) c.expr-in-Repeat.ensures)
