-- Parts that are put together one after the other.
use Rattle.std.proofs.Common.{◌≡◌, ap, ◌∙◌, List, [], ◌∷◌, ◌++◌, append_assoc}

pub put_together : {A : Type 0} (a b d e : A) (hs cs p q r s : List A) → p ≡ a ∷ hs → q ≡ b ∷ cs → r ≡ p ++ q → s ≡ r ++ e ∷ [] → e ≡ d → s ≡ a ∷ (hs ++ (b ∷ (cs ++ (d ∷ []))))
put_together a b d e hs cs p q r s f g h i j =
    i ∙ ap (λ x. r ++ x ∷ []) j ∙ ap (λ xs. xs ++ d ∷ []) (h ∙ ap (λ ys. ys ++ q) f ∙ ap (λ ys. (a ∷ hs) ++ ys) g) ∙ append_assoc (a ∷ hs) (b ∷ cs) (d ∷ [])
