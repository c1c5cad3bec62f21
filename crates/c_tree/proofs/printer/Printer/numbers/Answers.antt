use Rattle.std.proofs.Common.{◌∷◌, sym}
use Rattle.c_tree.specs.Spelling as spec
use Rattle.c_tree.specs.declared.sign.Sign.TheVariants.{Comma}
use Rattle.c_tree.proofs.GrowingText.{put_all-nil, put_all-more_number, then_one, last_one}
use Rattle.c_tree.proofs.printer.Printer.numbers.Goals as goal

pub loop-number-init : goal.loop-number-init
loop-number-init c = sym (put_all-nil c.args.self.now)

pub loop-number-preserved : goal.loop-number-preserved
loop-number-preserved c =
    put_all-more_number (λ n. spec.mark Comma ∷ spec.int_pieces n) _ _ _ c.args.numbers.now c.loop-number.number-index c.loop-number-test.true c.loop-number.invariant
    (then_one _ _ _ _ _ c.in_ok-mark.ensures (last_one _ _ _ c.in_ok-number.ensures))
