use Rattle.std.proofs.Common.{◌∙◌, ap, sym}
use Rattle.c_tree.specs.Layout.{put_all}
use Rattle.c_tree.proofs.GrowingText.{last_one, then_all}
use Rattle.c_tree.proofs.SpellingViews.{item_pieces-Located}
use Rattle.c_tree.proofs.printer.Printer.located.Goals as goal

pub returns : goal.returns
returns c =
    then_all _ _ _ _ _ (then_all _ _ _ _ _ c.in_ok-cell.ensures c.in_ok-numbers.ensures) (last_one _ _ _ c.in_ok-ending.ensures)
    ∙ ap (put_all c.args.self.now) (sym (item_pieces-Located c.args.elem c.args.name.now c.args.dir c.args.size c.args.numbers.now))
