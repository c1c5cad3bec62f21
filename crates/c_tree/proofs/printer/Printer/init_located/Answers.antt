use Rattle.std.proofs.Common.{◌∙◌, ap, sym}
use Rattle.c_tree.specs.Layout.{put_all}
use Rattle.c_tree.proofs.GrowingText.{on_ok, then_all, then_one}
use Rattle.c_tree.proofs.SpellingViews.{stmt_pieces-InitLocated}
use Rattle.c_tree.proofs.printer.Printer.init_located.Goals as goal

pub returns : goal.returns
returns c =
    on_ok c.end_of_call.result
    (λ e. then_all _ _ _ _ _ (then_all _ _ _ _ _ c.in_ok-form.ensures c.in_ok-path.ensures) (then_one _ _ _ _ _ c.in_ok-mark.ensures (then_one _ _ _ _ _ c.in_ok-name.ensures e))
    ∙ ap (put_all c.args.self.now) (sym (stmt_pieces-InitLocated c.args.to.now c.args.cell.now)))
    c.end_of_call.ensures
