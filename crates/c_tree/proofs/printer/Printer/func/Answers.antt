use Rattle.std.proofs.Common.{◌∙◌, ap, sym}
use Rattle.c_tree.specs.Layout.{put_all}
use Rattle.c_tree.proofs.GrowingText.{then_all}
use Rattle.c_tree.proofs.SpellingViews.{item_pieces-Func}
use Rattle.c_tree.proofs.printer.Printer.func.Goals as goal

pub returns : goal.returns
returns c =
    then_all _ _ _ _ _ c.in_ok-head.ensures c.in_ok-body.ensures
    ∙ ap (put_all c.args.self.now) (sym (item_pieces-Func c.args.gives c.args.name.now c.args.params.now c.args.locals.now c.args.body.now))
