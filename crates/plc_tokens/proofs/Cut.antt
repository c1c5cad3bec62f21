-- Lists of tokens that are cut.
use Rattle.std.proofs.Common.{◌≡◌, ℕ, zero, suc, ◌<◌, List, [], ◌∷◌, length, take, set, get_or, ap, arith}
use Rattle.plc_base.specs.declared.refusal.Rule.{Rule}
use Rattle.plc_tokens.specs.declared.token.Token.{Token}
use Rattle.plc_tokens.specs.Tokens.{bad, cut}

pub cut-set : (ts : List Token) (i : ℕ) (rule : Rule) (t : Token) → i < length ts → t ≡ get_or (take (suc i) ts) i t
    → set (take (suc i) ts) i (bad rule t.place t.fresh) ≡ cut ts i rule
cut-set [] i rule t h is = absurd (omega arith)
cut-set (u ∷ ts) zero rule t h is = ap (λ v. bad rule v.place v.fresh ∷ []) is
cut-set (u ∷ ts) (suc i) rule t h is = ap (λ vs. u ∷ vs) (cut-set ts i rule t (omega arith) is)
