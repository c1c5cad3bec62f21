use Rattle.c_tree.proofs.GrowingText.{last_one, then_all, then_one}
use Rattle.c_tree.proofs.printer.Printer.head.Goals as goal

pub returns : goal.returns
returns c = then_all _ _ _ _ _ (then_one _ _ _ _ _ c.in_ok-gives.ensures (then_one _ _ _ _ _ c.in_ok-name.ensures (then_one _ _ _ _ _ c.in_ok-mark.ensures c.in_ok-params.ensures))) (then_one _ _ _ _ _ c.in_ok-mark-2.ensures (last_one _ _ _ c.in_ok-ending.ensures))
