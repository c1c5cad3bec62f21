-- When a test of equal bytes is true.
use Rattle.std.proofs.Common.{◌≡◌, refl, sym, ap, ◌∙◌, ℕ, List, [], ◌∷◌, ◌++◌, Bool, true, false, arith}
use Rattle.std.specs.Prelude.{nat_eq, ◌&&◌}
use Rattle.std.specs.Str.{bytes_eq}
use Rattle.std.proofs.lemmas.Bool.{true≢false}
use Rattle.std.proofs.lemmas.Bool.Decides.{nat_tests}
use Rattle.std.proofs.lemmas.Slice.Eq.{bytes_eq-Decides}

pub bytes_eq-self : (xs : List ℕ) → bytes_eq xs xs ≡ true
bytes_eq-self [] = refl
bytes_eq-self (x ∷ xs) = let e : nat_eq x x ≡ true = grind (arith, nat_tests) in ap (λ b. b && bytes_eq xs xs) e ∙ bytes_eq-self xs

-- what stands before both says nothing
pub bytes_eq-after : (xs ys zs : List ℕ) → bytes_eq (xs ++ ys) (xs ++ zs) ≡ bytes_eq ys zs
bytes_eq-after [] ys zs = refl
bytes_eq-after (x ∷ xs) ys zs = let e : nat_eq x x ≡ true = grind (arith, nat_tests) in ap (λ b. b && bytes_eq (xs ++ ys) (xs ++ zs)) e ∙ bytes_eq-after xs ys zs

-- a test that can't be true
pub bytes_eq-never : (xs ys : List ℕ) → (xs ≡ ys → ⊥) → bytes_eq xs ys ≡ false
bytes_eq-never xs ys h = by (bytes_eq xs ys) refl
  where
    by : (b : Bool) → bytes_eq xs ys ≡ b → bytes_eq xs ys ≡ false
    by true e = absurd (h ((bytes_eq-Decides xs ys).0 e))
    by false e = e

-- a test that is false is so the other way round
pub bytes_eq-turned : (a b : List ℕ) → bytes_eq a b ≡ false → bytes_eq b a ≡ false
bytes_eq-turned a b h = bytes_eq-never b a (λ e. true≢false (sym ((bytes_eq-Decides a b).1 (sym e)) ∙ h))
