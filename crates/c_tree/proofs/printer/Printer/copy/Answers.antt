use Rattle.std.proofs.Common.{◌∙◌, ap, sym}
use Rattle.c_tree.specs.Layout.{put_all}
use Rattle.c_tree.proofs.GrowingText.{on_ok, then_all, then_one}
use Rattle.c_tree.proofs.SpellingViews.{stmt_pieces-Copy}
use Rattle.c_tree.proofs.printer.Printer.copy.Goals as goal

pub returns : goal.returns
returns c =
    on_ok c.end_of_call.result
    (λ e. then_all _ _ _ _ _ (then_all _ _ _ _ _ (then_all _ _ _ _ _ c.in_ok-form.ensures c.in_ok-path.ensures) (then_one _ _ _ _ _ c.in_ok-mark.ensures c.in_ok-path-2.ensures)) e
    ∙ ap (put_all c.args.self.now) (sym (stmt_pieces-Copy c.args.to.now c.args.from.now)))
    c.end_of_call.ensures
