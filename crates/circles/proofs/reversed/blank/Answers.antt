use Rattle.std.proofs.Common.{ap, ◌∙◌, arith, [], ◌∷◌, length, length-append}
use Rattle.circles.specs.Needs.{needs}
use Rattle.circles.proofs.Reversing.{needs_more}
use Rattle.circles.proofs.reversed.blank.Goals as goal

pub loop-preserved : goal.loop-preserved
loop-preserved c = record {
  sized = omega (arith, ap length c.in_ok-begin.ensures, length-append c.loop.blank ([] ∷ []));
  nothing = λ b a. ap (λ h. needs h b a) c.in_ok-begin.ensures ∙ needs_more c.loop.blank b a ∙ c.loop.invariant.nothing b a;
}
