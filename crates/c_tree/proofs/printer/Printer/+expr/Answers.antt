use Rattle.std.proofs.Common.{◌∙◌, ap, sym, take_all}
use Rattle.c_tree.specs.Layout.{put_all}
use Rattle.c_tree.specs.Spelling as spec
use Rattle.c_tree.proofs.GrowingText.{on_ok, of_tree, last_one, then_all, put_all-more, put_all-more_behind}
use Rattle.c_tree.proofs.SpellingViews.{expr_pieces-Moment, expr_pieces-GetVar, expr_pieces-GetLocated, expr_pieces-Cast}
use Rattle.c_tree.proofs.printer.Printer.+expr.Goals as goal

pub sels-loop-sel-preserved : goal.sels-loop-sel-preserved
sels-loop-sel-preserved t c =
    put_all-more spec.sel_pieces _ _ _ c.args.sels.now c.loop-sel.sel-index c.sel-item.result c.loop-sel-test.true c.sel-item.is c.loop-sel.invariant c.in_ok-sel.ensures

pub expr-returns-in-Moment : goal.expr-returns-in-Moment
expr-returns-in-Moment t c = on_ok c.word.result (λ e. of_tree spec.expr_pieces _ _ _ _ _ expr_pieces-Moment c.in-Moment.is (last_one _ _ _ e)) c.word.ensures

pub expr-returns-in-GetVar : goal.expr-returns-in-GetVar
expr-returns-in-GetVar t c = on_ok c.form_of_path.result (of_tree spec.expr_pieces _ _ _ _ _ (expr_pieces-GetVar c.in-GetVar.path) c.in-GetVar.is) c.form_of_path.ensures

pub expr-returns-in-GetLocated : goal.expr-returns-in-GetLocated
expr-returns-in-GetLocated t c =
    on_ok c.form_of_path-in-GetLocated.result (of_tree spec.expr_pieces _ _ _ _ _ (expr_pieces-GetLocated c.in-GetLocated.path) c.in-GetLocated.is) c.form_of_path-in-GetLocated.ensures

pub expr-returns-in_ok-mark-in-Cast : goal.expr-returns-in_ok-mark-in-Cast
expr-returns-in_ok-mark-in-Cast t c =
    of_tree spec.expr_pieces _ _ _ _ _ (expr_pieces-Cast c.in-Cast.to c.in-Cast.inner) c.in-Cast.is
    (then_all _ _ _ _ _ c.in_ok-type_to_cast-in-Cast.ensures
    (then_all _ _ _ _ _ (c.in_ok-expr-in-Cast.ensures ∙ ap (λ x. put_all c.type_to_cast.new.self (spec.expr_pieces x)) c.get-in-Cast.ensures) (last_one _ _ _ c.in_ok-mark-in-Cast.ensures)))

pub args-loop-arg-preserved : goal.args-loop-arg-preserved
args-loop-arg-preserved t c =
    put_all-more_behind spec.arg_pieces _ _ _ _ c.in-Some.rest.now c.loop-arg.arg-index c.arg-item.result c.loop-arg-test.true c.arg-item.is c.loop-arg.invariant c.in_ok-mark-in-Some.ensures
    c.in_ok-arg-in-Some-2.ensures

pub args-returns-after-loop-arg : goal.args-returns-after-loop-arg
args-returns-after-loop-arg t c =
    then_all _ _ _ _ _ c.in_ok-arg-in-Some.ensures
    (c.loop-arg.invariant ∙ ap (λ xs. put_all c.arg.new.self (spec.behind_commas spec.arg_pieces xs)) (take_all c.loop-arg.arg-index c.in-Some.rest.now c.loop-arg-test.false))
    ∙ ap (λ xs. put_all c.args.self.now (spec.between_commas spec.arg_pieces xs)) (sym c.in-Some.ensures.cases.0)
