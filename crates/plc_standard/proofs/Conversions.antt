-- The name of a conversion, part by part.
use Rattle.std.proofs.Common.{◌≡◌, ◌≢◌, sym, ap, ◌∙◌, ℕ, List, ◌∷◌, ◌++◌, false, drop, length}
use Rattle.std.specs.Prelude.{bytes_eq}
use Rattle.std.proofs.Math.Seq.{drop-append_seam}
use Rattle.plc_base.proofs.Bytes.{bytes_eq-after, bytes_eq-never}
use Rattle.plc_standard.specs.Standard.{conversion}

pub named_end : (name from to rest end : List ℕ) → name ≡ from ++ rest → rest ≡ 95 ∷ 84 ∷ 79 ∷ 95 ∷ end → bytes_eq end to ≡ bytes_eq name (conversion from to)
named_end name from to rest end e f = sym (ap (λ n. bytes_eq n (conversion from to)) (e ∙ ap (λ r. from ++ r) f) ∙ bytes_eq-after from _ _)

pub not_named : (name from to rest : List ℕ) → name ≡ from ++ rest → ((end : List ℕ) → rest ≢ 95 ∷ 84 ∷ 79 ∷ 95 ∷ end) → bytes_eq name (conversion from to) ≡ false
not_named name from to rest e h = bytes_eq-never _ _ (λ f. h to (sym (drop-append_seam from rest) ∙ ap (drop (length from)) (sym e ∙ f) ∙ drop-append_seam from _))
