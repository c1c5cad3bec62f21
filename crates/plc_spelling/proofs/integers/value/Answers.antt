use Rattle.std.proofs.Common.{◌≡◌, ◌≢◌, ℕ, suc, zero, ◌+◌, ◌*◌, ◌^◌, ◌≤◌, ◌<◌, min, ◌==◌, take, get_or, ◌∙◌, arith, if◌then◌else◌, ⊎_elim}
use Rattle.std.specs.Char.{digit_value}
use Rattle.std.proofs.lemmas.List.Sums.{fold_more}
use Rattle.std.proofs.lemmas.Nat.{mul-le}
use Rattle.std.proofs.lemmas.Bool.{eq-eqb, ne_eqb, cases_lt}
use Rattle.plc_spelling.specs.Integers as spec
use Rattle.plc_spelling.proofs.integers.value.Goals as goal
use Rattle.plc_spelling.proofs.integers.value.Goals.{then-b-ne95, else-b-ne95}

above : (base s d cap : ℕ) → cap ≤ s → min cap (cap * base + d) ≡ min (s * base + d) cap
above zero s d cap le = omega arith
above (suc base) s d cap le = omega (arith, mul-le cap 1 cap (suc base), mul-le cap (suc base) s (suc base))

-- to cut a number off before a digit is put behind it changes nothing, where it is cut off then
capped : (base s d cap : ℕ) → min cap (min s cap * base + d) ≡ min (s * base + d) cap
capped base s d cap = ⊎_elim
    (λ (less : s < cap). let is : min s cap ≡ s = omega (arith, less) in rw is (omega arith))
    (λ (le : cap ≤ s). let is : min s cap ≡ cap = omega (arith, le) in rw is (above base s d cap le))
    (cases_lt s cap)

digit_put : (base s b cap value by d : ℕ) → value ≡ min s cap → by ≡ base → b ≢ 95 → d ≡ digit_value b
    → min cap (value * by + d) ≡ min (if b == 95 then s else s * base + digit_value b) cap
digit_put base s b cap value by d is by_is other d_is = rw (ne_eqb b 95 other, is, by_is, d_is) (capped base s (digit_value b) cap)

pub loop-b-preserved : goal.loop-b-preserved
loop-b-preserved c =
    let more : spec.value c.args.base (take (c.loop-b.b-index + 1) c.args.digits.now)
    ≡ (if get_or c.args.digits.now c.loop-b.b-index 0 == 95 then spec.value c.args.base (take c.loop-b.b-index c.args.digits.now)
    else spec.value c.args.base (take c.loop-b.b-index c.args.digits.now) * c.args.base + digit_value (get_or c.args.digits.now c.loop-b.b-index 0))
    = fold_more (λ (n b : ℕ). if b == 95 then n else n * c.args.base + digit_value b) 0 c.args.digits.now c.loop-b.b-index 0 c.loop-b-test.true in
    rw more (elim c.if-b-ne95.branch [
      | then-b-ne95 w ↦ w.value-is ∙ w.min-value.ensures ∙ digit_put c.args.base (spec.value c.args.base (take c.loop-b.b-index c.args.digits.now))
          (get_or c.args.digits.now c.loop-b.b-index 0) (2 ^ 64) c.loop-b.value w.from.result w.from-then-b-ne95.result c.loop-b.invariant w.from.ensures w.if-b-ne95.true
          (w.from-then-b-ne95.ensures ∙ w.digit_value.ensures.value)
      | else-b-ne95 w ↦ rw (eq-eqb (get_or c.args.digits.now c.loop-b.b-index 0) 95 w.if-b-ne95.false) (w.value-is ∙ c.loop-b.invariant)
    ])
