use Rattle.std.proofs.Common.{◌∙◌, ap, sym}
use Rattle.c_tree.specs.Layout.{put_all}
use Rattle.c_tree.proofs.GrowingText.{last_one, then_all, then_one}
use Rattle.c_tree.proofs.SpellingViews.{item_pieces-Object}
use Rattle.c_tree.proofs.printer.Printer.object.Goals as goal

pub returns : goal.returns
returns c =
    then_all _ _ _ _ _ (then_all _ _ _ _ _ c.in_ok-ctype.ensures (then_one _ _ _ _ _ c.in_ok-name.ensures c.in_ok-dims.ensures)) (last_one _ _ _ c.in_ok-ending.ensures)
    ∙ ap (put_all c.args.self.now) (sym (item_pieces-Object c.args.ty.now c.args.name.now c.args.dims.now))
