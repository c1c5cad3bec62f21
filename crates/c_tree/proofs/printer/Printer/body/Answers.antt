use Rattle.c_tree.proofs.GrowingText.{last_one, then_all}
use Rattle.c_tree.proofs.printer.Printer.body.Goals as goal

pub returns : goal.returns
returns c = then_all _ _ _ _ _ (then_all _ _ _ _ _ c.in_ok-locals.ensures c.in_ok-stmts.ensures) (last_one _ _ _ c.in_ok-ending.ensures)
