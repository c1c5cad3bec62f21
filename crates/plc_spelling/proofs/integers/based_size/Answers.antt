use Rattle.std.proofs.Common.{◌≡◌, ℕ, ◌+◌, ◌≤◌, true, List, ◌||◌, max, length, drop, refl, sym, subst, ◌∙◌, rules}
use Rattle.std.proofs.lemmas.List.{take_rest}
use Rattle.plc_spelling.specs.Text.{IsGreatest, begins, is_nil}
use Rattle.plc_spelling.specs.Integers.{is_number, is_based}
use Rattle.plc_spelling.proofs.Fronts.{begins-front}
use Rattle.plc_spelling.proofs.Greatest.{greatest-behind, greatest-or-nil}
use Rattle.plc_spelling.proofs.integers.based_size.Goals as goal

behind_mark : (base : ℕ) (mark text : List ℕ) (n : ℕ) → begins mark text ≡ true → length mark ≤ length text
    → IsGreatest (is_number (max base 10)) (drop (length mark) text) n → IsGreatest (is_based base mark) text (length mark + n)
behind_mark base mark text n h fits law = greatest-behind (is_based base mark) (λ bs. is_nil bs || is_number (max base 10) bs) text (length mark) n fits refl
    (λ front rest is le. rw (begins-front mark front rest text is le ∙ h) refl)
    (greatest-or-nil (is_number (max base 10)) (drop (length mark) text) n law)

pub returns : goal.returns
returns c =
    let fits : length c.args.mark.now ≤ length c.args.text.now = search rules in
    let law = subst (λ bs. IsGreatest (is_number c.max.result) bs c.number_size.result) (take_rest c.args.text.now (length c.args.mark.now)) c.number_size.ensures in
    behind_mark c.args.base c.args.mark.now c.args.text.now c.number_size.result (sym c.begins.ensures.value ∙ c.if-not-begins.false) fits
    (subst (λ base. IsGreatest (is_number base) (drop (length c.args.mark.now) c.args.text.now) c.number_size.result) c.max.ensures law)
