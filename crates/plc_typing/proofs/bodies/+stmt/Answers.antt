use Rattle.std.proofs.Common.{◌++◌, Some, true}
use Rattle.std.specs.List.{flat_map}
use Rattle.std.proofs.lemmas.Result.{on_ok_weaker}
use Rattle.plc_base.specs.declared.elem.Elem.TheVariants.{Bool as Boolean}
use Rattle.plc_base.proofs.LeastLaws.{meets_each, meets_then, meets_on}
use Rattle.plc_tree.specs.declared.tree.Stmt as stmt
use Rattle.plc_typing.specs.Scope.{types_of}
use Rattle.plc_typing.specs.Uses.{label_faults, expr_faults, pick_faults, stmt_faults}
use Rattle.plc_typing.specs.UsesOfParts.{for_faults, arm_faults, choice_faults}
use Rattle.plc_typing.proofs.UseViews.{faults-If, faults-Case, faults-For, faults-While, faults-Repeat}
use Rattle.plc_typing.proofs.Statements.{stmt_met}
use Rattle.plc_typing.proofs.bodies.+stmt.Goals as goal

-- ---- lists

pub if_arms-loop-arm-preserved : goal.if_arms-loop-arm-preserved
if_arms-loop-arm-preserved t c =
    let types = types_of c.args.scope.now in
    let inside = c.args.inside in
    let arm = c.arm-item.result in
    let b = c.expression.new.met in
    let d = c.stmts.new.met in
    let body = meets_each (stmt_faults types inside) c.as_slice.result.now arm.body b d c.as_slice.ensures c.in_ok-stmts.ensures in
    meets_on (arm_faults types inside) c.args.arms.now c.loop-arm.arm-index arm c.args.met.now c.loop-arm.met d c.loop-arm-test.true c.arm-item.is c.loop-arm.invariant
    (meets_then (expr_faults types (Some Boolean) arm.test) (flat_map (stmt_faults types inside) arm.body) c.loop-arm.met b d c.in_ok-expression.ensures body)

pub case_arms-loop-choice-preserved : goal.case_arms-loop-choice-preserved
case_arms-loop-choice-preserved t c =
    let types = types_of c.args.scope.now in
    let inside = c.args.inside in
    let choice = c.choice-item.result in
    let b = c.labels.new.met in
    let d = c.stmts.new.met in
    let labels = meets_each label_faults c.as_slice.result.now choice.labels c.loop-choice.met b c.as_slice.ensures c.labels.ensures in
    let body = meets_each (stmt_faults types inside) c.as_slice-in-loop-choice.result.now choice.body b d c.as_slice-in-loop-choice.ensures c.in_ok-stmts.ensures in
    meets_on (choice_faults types inside) c.args.choices.now c.loop-choice.choice-index choice c.args.met.now c.loop-choice.met d c.loop-choice-test.true c.choice-item.is c.loop-choice.invariant
    (meets_then (flat_map label_faults choice.labels) (flat_map (stmt_faults types inside) choice.body) c.loop-choice.met b d labels body)

pub stmts-loop-s-preserved : goal.stmts-loop-s-preserved
stmts-loop-s-preserved t c =
    meets_on (stmt_faults (types_of c.args.scope.now) c.args.inside) c.args.stmts.now c.loop-s.s-index c.s-item.result c.args.met.now c.loop-s.met c.stmt.new.met c.loop-s-test.true c.s-item.is c.loop-s.invariant c.in_ok-stmt.ensures

-- ---- statements

pub stmt-returns-in_ok-if_arms-in-If : goal.stmt-returns-in_ok-if_arms-in-If
stmt-returns-in_ok-if_arms-in-If t c =
    let types = types_of c.args.scope.now in
    let inside = c.args.inside in
    let a = c.args.met.now in
    let x = c.in-If in
    let arms = flat_map (arm_faults types inside) x.arms in
    let other = flat_map (stmt_faults types inside) x.other in
    stmt_met types inside c.args.stmt.now (stmt.If x.arms x.other) arms other c.stmts.result a c.if_arms.new.met c.stmts.new.met x.is (faults-If types inside x.arms x.other)
    (meets_each (arm_faults types inside) c.as_slice.result.now x.arms a c.if_arms.new.met c.as_slice.ensures c.in_ok-if_arms-in-If.ensures)
    (on_ok_weaker c.stmts.result (meets_each (stmt_faults types inside) c.as_slice-in-If.result.now x.other c.if_arms.new.met c.stmts.new.met c.as_slice-in-If.ensures) c.stmts.ensures)

pub stmt-returns-in_ok-case_arms-in-Case : goal.stmt-returns-in_ok-case_arms-in-Case
stmt-returns-in_ok-case_arms-in-Case t c =
    let types = types_of c.args.scope.now in
    let inside = c.args.inside in
    let a = c.args.met.now in
    let x = c.in-Case in
    let b = c.selector.new.met in
    let d = c.case_arms.new.met in
    let pick = pick_faults types x.pick in
    let choices = flat_map (choice_faults types inside) x.arms in
    let other = flat_map (stmt_faults types inside) x.other in
    stmt_met types inside c.args.stmt.now (stmt.Case x.pick x.arms x.other) (pick ++ choices) other c.stmts-in-Case.result a d c.stmts-in-Case.new.met x.is (faults-Case types inside x.pick x.arms x.other)
    (meets_then pick choices a b d c.in_ok-selector-in-Case.ensures (meets_each (choice_faults types inside) c.as_slice-in-Case.result.now x.arms b d c.as_slice-in-Case.ensures c.in_ok-case_arms-in-Case.ensures))
    (on_ok_weaker c.stmts-in-Case.result (meets_each (stmt_faults types inside) c.as_slice-in-Case-2.result.now x.other d c.stmts-in-Case.new.met c.as_slice-in-Case-2.ensures) c.stmts-in-Case.ensures)

pub stmt-returns-in_ok-for_head-in-For : goal.stmt-returns-in_ok-for_head-in-For
stmt-returns-in_ok-for_head-in-For t c =
    let types = types_of c.args.scope.now in
    let inside = c.args.inside in
    let a = c.args.met.now in
    let x = c.in-For in
    let head = for_faults types x.var x.start x.limit x.step in
    let body = flat_map (stmt_faults types true) x.body in
    stmt_met types inside c.args.stmt.now (stmt.For x.var x.start x.limit x.step x.body) head body c.stmts-in-For.result a c.for_head.new.met c.stmts-in-For.new.met x.is (faults-For types inside x.var x.start x.limit x.step x.body)
    (c.in_ok-for_head-in-For.ensures)
    (on_ok_weaker c.stmts-in-For.result (meets_each (stmt_faults types true) c.as_slice-in-For.result.now x.body c.for_head.new.met c.stmts-in-For.new.met c.as_slice-in-For.ensures) c.stmts-in-For.ensures)

pub stmt-returns-in_ok-expression-in-While : goal.stmt-returns-in_ok-expression-in-While
stmt-returns-in_ok-expression-in-While t c =
    let types = types_of c.args.scope.now in
    let inside = c.args.inside in
    let a = c.args.met.now in
    let x = c.in-While in
    let test = expr_faults types (Some Boolean) x.test in
    let body = flat_map (stmt_faults types true) x.body in
    stmt_met types inside c.args.stmt.now (stmt.While x.test x.body) test body c.stmts-in-While.result a c.expression.new.met c.stmts-in-While.new.met x.is (faults-While types inside x.test x.body)
    (c.in_ok-expression-in-While.ensures)
    (on_ok_weaker c.stmts-in-While.result (meets_each (stmt_faults types true) c.as_slice-in-While.result.now x.body c.expression.new.met c.stmts-in-While.new.met c.as_slice-in-While.ensures) c.stmts-in-While.ensures)

pub stmt-returns-in_ok-stmts-in-Repeat : goal.stmt-returns-in_ok-stmts-in-Repeat
stmt-returns-in_ok-stmts-in-Repeat t c =
    let types = types_of c.args.scope.now in
    let inside = c.args.inside in
    let a = c.args.met.now in
    let x = c.in-Repeat in
    let b = c.stmts-in-Repeat.new.met in
    let test = expr_faults types (Some Boolean) x.test in
    let body = flat_map (stmt_faults types true) x.body in
    stmt_met types inside c.args.stmt.now (stmt.Repeat x.body x.test) body test c.expression-in-Repeat.result a b c.expression-in-Repeat.new.met x.is (faults-Repeat types inside x.body x.test)
    (meets_each (stmt_faults types true) c.as_slice-in-Repeat.result.now x.body a b c.as_slice-in-Repeat.ensures c.in_ok-stmts-in-Repeat.ensures)
    (c.expression-in-Repeat.ensures)
