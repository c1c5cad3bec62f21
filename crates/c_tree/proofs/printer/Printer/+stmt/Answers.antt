use Rattle.std.proofs.Common.{◌∙◌, ap, sym}
use Rattle.std.specs.Prelude.{Some, None}
use Rattle.c_tree.specs.Layout.{put_all}
use Rattle.c_tree.specs.Spelling as spec
use Rattle.c_tree.specs.declared.tree.CStmt.TheVariants as stmts
use Rattle.c_tree.proofs.GrowingText.{on_ok, of_tree, then_all, then_one, put_all-more, put_all-nil}
use Rattle.c_tree.proofs.SpellingViews.{stmt_pieces-InitVar, stmt_pieces-SetVar, stmt_pieces-SetLocated, stmt_pieces-If}
use Rattle.c_tree.proofs.printer.Printer.+stmt.Goals as goal

pub stmts-loop-stmt-preserved : goal.stmts-loop-stmt-preserved
stmts-loop-stmt-preserved t c =
    put_all-more spec.stmt_pieces _ _ _ c.args.stmts.now c.loop-stmt.stmt-index c.stmt-item.result c.loop-stmt-test.true c.stmt-item.is c.loop-stmt.invariant c.in_ok-stmt.ensures

pub stmt-returns-in-InitVar : goal.stmt-returns-in-InitVar
stmt-returns-in-InitVar t c = on_ok c.setting.result (of_tree spec.stmt_pieces _ _ _ _ _ (stmt_pieces-InitVar c.in-InitVar.to c.in-InitVar.from) c.in-InitVar.is) c.setting.ensures

pub stmt-returns-in-SetVar : goal.stmt-returns-in-SetVar
stmt-returns-in-SetVar t c =
    on_ok c.setting-in-SetVar.result (of_tree spec.stmt_pieces _ _ _ _ _ (stmt_pieces-SetVar c.in-SetVar.to c.in-SetVar.from) c.in-SetVar.is) c.setting-in-SetVar.ensures

pub stmt-returns-in-SetLocated : goal.stmt-returns-in-SetLocated
stmt-returns-in-SetLocated t c =
    on_ok c.setting-in-SetLocated.result (of_tree spec.stmt_pieces _ _ _ _ _ (stmt_pieces-SetLocated c.in-SetLocated.to c.in-SetLocated.from) c.in-SetLocated.is) c.setting-in-SetLocated.ensures

pub stmt-returns-in_default : goal.stmt-returns-in_default
stmt-returns-in_default t c =
    of_tree spec.stmt_pieces _ _ _ _ _ (stmt_pieces-If c.in-If.test c.in-If.body None) (c.in-If.is ∙ ap (stmts.If c.in-If.test c.in-If.body) c.in_default.is)
    (then_all _ _ _ _ _
    (then_all _ _ _ _ _ c.in_ok-test-in-If.ensures (c.in_ok-block-in-If.ensures ∙ ap (λ xs. put_all c.test.new.self (spec.block_pieces xs)) c.as_slice-in-If.ensures))
    (sym (put_all-nil c.block.new.self)))

pub stmt-returns-in_ok-block-in-If-2 : goal.stmt-returns-in_ok-block-in-If-2
stmt-returns-in_ok-block-in-If-2 t c =
    of_tree spec.stmt_pieces _ _ _ _ _ (stmt_pieces-If c.in-If.test c.in-If.body (Some c.in-Some.stmts)) (c.in-If.is ∙ ap (stmts.If c.in-If.test c.in-If.body) c.in-Some.is)
    (then_all _ _ _ _ _
    (then_all _ _ _ _ _ c.in_ok-test-in-If.ensures (c.in_ok-block-in-If.ensures ∙ ap (λ xs. put_all c.test.new.self (spec.block_pieces xs)) c.as_slice-in-If.ensures))
    (then_one _ _ _ _ _ c.in_ok-word-in-If.ensures (c.in_ok-block-in-If-2.ensures ∙ ap (λ xs. put_all c.word.new.self (spec.block_pieces xs)) c.as_slice-in-Some.ensures)))
