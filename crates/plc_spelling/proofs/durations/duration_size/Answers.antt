use Rattle.std.proofs.Common.{◌≡◌, ◌+◌, ◌-◌, ◌<◌, ◌≤◌, length, take, drop, true, sym, ap, subst, ◌∙◌, arith, is_some}
use Rattle.std.proofs.lemmas.List.{take_rest}
use Rattle.plc_spelling.specs.Durations.{units, parts, unsigned, is_duration}
use Rattle.plc_spelling.specs.Text.{IsGreatest}
use Rattle.plc_spelling.proofs.durations.duration_size.Goals as goal
use Rattle.plc_spelling.proofs.DurationEnds.{sign-greatest, parts-greatest, sign_size, digit_size}

pub returns-in-0 : goal.returns-in-0
returns-in-0 c =
    let text = c.args.text.now in
    let u = c.unsigned-unsigned.ensures in
    let p = subst (IsGreatest (λ front. is_some (parts units true front)) (unsigned text)) c.in-0.is
    (subst (λ t. IsGreatest (λ front. is_some (parts units true front)) t c.parts_size.result) u c.parts_size.ensures) in
    subst (λ t. IsGreatest is_duration text (length text - length t)) (sym u) (sign-greatest text p)

pub returns-in_default : goal.returns-in_default
returns-in_default c =
    let text = c.args.text.now in
    let u = c.unsigned-unsigned.ensures in
    let g = c.parts_size.result in
    let p = subst (λ t. IsGreatest (λ front. is_some (parts units true front)) t g) u c.parts_size.ensures in
    let left = c.unsigned-unsigned.result.now in
    let behind : take (length left - g) (drop g left) ≡ drop g (unsigned text) = take_rest left g ∙ ap (drop g) u in
    let more : c.digit_size.result ≡ digit_size (drop g (unsigned text)) = c.digit_size.ensures.value ∙ ap digit_size behind in
    let some : 0 < g = omega arith in
    let fits : digit_size (drop g (unsigned text)) ≤ length (drop g (unsigned text)) = omega (arith, c.digit_size.ensures.within, ap length behind, more) in
    let size : sign_size text + g + digit_size (drop g (unsigned text)) ≡ length text - length left + g + c.digit_size.result =
    ap (λ t. length text - length t + g + digit_size (drop g (unsigned text))) (sym u) ∙ ap (λ n. length text - length left + g + n) (sym more) in
    subst (IsGreatest is_duration text) size (parts-greatest text g some p fits)
