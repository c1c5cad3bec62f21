use Rattle.std.proofs.Common.{◌∙◌, ap, sym}
use Rattle.c_tree.specs.Layout.{put_all}
use Rattle.c_tree.specs.Spelling as spec
use Rattle.c_tree.proofs.GrowingText.{last_one, then_all, then_one, put_all-more, put_all-nil}
use Rattle.c_tree.proofs.SpellingViews.{item_pieces-Struct}
use Rattle.c_tree.proofs.printer.Printer.+item.Goals as goal

pub structure-returns : goal.structure-returns
structure-returns t c =
    then_all _ _ _ _ _ (then_one _ _ _ _ _ c.in_ok-word.ensures (then_one _ _ _ _ _ c.in_ok-word-2.ensures (then_one _ _ _ _ _ c.in_ok-ending.ensures c.in_ok-items.ensures))) (then_one _ _ _ _ _ c.in_ok-ending-2.ensures (then_one _ _ _ _ _ c.in_ok-name.ensures (last_one _ _ _ c.in_ok-ending-3.ensures)))
    ∙ ap (put_all c.args.self.now) (sym (item_pieces-Struct c.args.members.now c.args.name.now))

pub items-loop-item-init : goal.items-loop-item-init
items-loop-item-init t c = sym (put_all-nil c.args.self.now)

pub items-loop-item-preserved : goal.items-loop-item-preserved
items-loop-item-preserved t c =
    put_all-more spec.item_pieces _ _ _ c.args.items.now c.loop-item.item-index c.item-item.result c.loop-item-test.true c.item-item.is c.loop-item.invariant c.in_ok-item.ensures
