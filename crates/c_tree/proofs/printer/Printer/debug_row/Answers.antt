use Rattle.std.proofs.Common.{◌∙◌, ap, sym}
use Rattle.c_tree.specs.Layout.{put, put_all}
use Rattle.c_tree.specs.Spelling.{word}
use Rattle.c_tree.proofs.GrowingText.{on_ok, then_all, then_one}
use Rattle.c_tree.proofs.SpellingViews.{item_pieces-DebugRow}
use Rattle.c_tree.proofs.printer.Printer.debug_row.Goals as goal

pub returns : goal.returns
returns c =
    on_ok c.end_of_call.result
    (λ e. then_all _ _ _ _ _
    (then_all _ _ _ _ _ c.in_ok-form.ensures (then_one _ _ _ _ _ c.in_ok-number.ensures (then_one _ _ _ _ _ c.in_ok-mark.ensures (then_one _ _ _ _ _ c.in_ok-elem.ensures (then_one _ _ _ _ _ c.in_ok-mark-2.ensures c.in_ok-path.ensures)))))
    (then_one _ _ _ _ _ c.in_ok-mark-3.ensures (then_one _ _ _ _ _ (c.in_ok-word.ensures ∙ ap (λ xs. put c.mark-3.new.self (word xs)) c.row_word.ensures) e))
    ∙ ap (put_all c.args.self.now) (sym (item_pieces-DebugRow c.args.number c.args.elem c.args.path.now c.args.kind)))
    c.end_of_call.ensures
