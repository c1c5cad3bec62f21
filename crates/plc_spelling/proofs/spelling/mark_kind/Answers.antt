use Rattle.std.proofs.Common.{◌≡◌, ◌∙◌, sym, ap, true, false, ⊎_elim}
use Rattle.std.proofs.lemmas.Bool.{both_ways, or_cases}
use Rattle.plc_base.specs.declared.kind.Kind.TheVariants.{Left}
use Rattle.plc_spelling.specs.Marks.{is_symbol, is_mark}
use Rattle.plc_spelling.proofs.FirstTokens.{kind-symbol, kind-mark}
use Rattle.plc_spelling.proofs.spelling.mark_kind.Goals as goal

pub returns-in_ok-new : goal.returns-in_ok-new
returns-in_ok-new c = ap Left (c.in_ok-new.ensures) ∙ sym (kind-mark c.args.bytes.now (sym c.is_mark.ensures ∙ c.if-is_mark.true))

pub returns-else-is_mark : goal.returns-else-is_mark
returns-else-is_mark c =
    let bytes = c.args.bytes.now in
    let none : is_mark bytes ≡ false = sym c.is_mark.ensures ∙ c.if-is_mark.false in
    let symbol : is_symbol bytes ≡ true = ⊎_elim (λ h. h) (λ h. absurd (both_ways (is_mark bytes) none h)) (or_cases (is_symbol bytes) (is_mark bytes) c.requires) in
    c.symbol_kind.ensures ∙ sym (kind-symbol bytes symbol)
