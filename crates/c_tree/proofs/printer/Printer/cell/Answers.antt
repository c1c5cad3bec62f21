use Rattle.c_tree.proofs.GrowingText.{last_one, then_all, then_one}
use Rattle.c_tree.proofs.printer.Printer.cell.Goals as goal

pub returns : goal.returns
returns c =
    then_all _ _ _ _ _ c.in_ok-form.ensures
    (then_one _ _ _ _ _ c.in_ok-elem.ensures (then_one _ _ _ _ _ c.in_ok-mark.ensures (then_one _ _ _ _ _ c.in_ok-name.ensures
    (then_one _ _ _ _ _ c.in_ok-mark-2.ensures (then_one _ _ _ _ _ c.in_ok-word.ensures (then_one _ _ _ _ _ c.in_ok-mark-3.ensures (last_one _ _ _ c.in_ok-word-2.ensures)))))))
