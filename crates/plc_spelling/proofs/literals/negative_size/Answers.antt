use Rattle.std.proofs.Common.{◌≡◌, sym, subst, ◌∙◌, refl, arith, ◌+◌}
use Rattle.plc_spelling.specs.Integers.{is_number}
use Rattle.plc_spelling.specs.Literals.{is_negative}
use Rattle.plc_spelling.specs.Text.{begins_with, IsGreatest}
use Rattle.plc_spelling.proofs.Fronts.{greatest-byte, past, past-some}
use Rattle.plc_spelling.proofs.literals.negative_size.Goals as goal

pub returns-else-digits-eq0 : goal.returns-else-digits-eq0
returns-else-digits-eq0 c =
    let text = c.args.text.now in
    let n = c.number_size-digits.result in
    let size : past (begins_with 45 text) 1 n ≡ n + 1 = past-some (begins_with 45 text) 1 n (sym c.begins_with.ensures.value ∙ c.if-not-begins_with.false) (omega (arith, c.if-digits-eq0.false)) ∙ omega arith in
    subst (IsGreatest is_negative text) size (greatest-byte 45 (is_number 10) text n refl (subst (λ bs. IsGreatest (is_number 10) bs n) c.behind.ensures c.number_size-digits.ensures))
