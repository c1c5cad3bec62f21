-- What one computed outcome of a descent says of the grammar.
use Rattle.std.proofs.Common.{◌≡◌, ℕ, Bool, true, List, [], ◌∷◌, Result, Ok, Err, sym, ◌∙◌, ap, subst}
use Rattle.phrase.specs.declared.Fault.{Fault}
use Rattle.phrase.specs.declared.Fault.TheVariants.{Wrong}
use Rattle.phrase.specs.Piece.{Sight, Piece, Sound, Meets, done, goes, deep, Law}
use Rattle.phrase.specs.Exact.{Phrase}
use Rattle.phrase.proofs.Basics.{no_more, ok_not_err}

module _ {T S : Type 0} {sort : Sight T S} {A : Type 0} {d : ℕ} {null : Bool} {fs cs : List S} {f : ℕ → Piece sort A} (l : Law d null true fs cs f) where
  -- tokens that are all read spell the value
  pub spelled : {s : List T} {a : A} → (f d).run s ≡ (Ok a, []) → (f d).lang s a
  spelled {s} {a} h = by_sound (subst (λ o. Sound true f d s o.0 o.1) h (l.sound s))
    where
      by_sound : Sound true f d s (Ok a) [] → (f d).lang s a
      by_sound (w, i, k) = subst (λ v. (f d).lang v a) (sym (i ∙ no_more w)) k

  meets_all : {s : List T} {o : Result A Fault} {r : List T} → (f d).run s ≡ (o, r) → (e : ℕ) (a : A) → (f e).lang s a → Meets sort d e cs (o, r) a []
  meets_all {s} {o} {r} h e a k = subst (λ z. Meets sort d e cs z a []) (ap (f d).run (no_more s) ∙ h) (l.meets e s a [] k)

  -- tokens at which the descent stops as wrong are no phrase
  pub denied : {s r : List T} → (f d).run s ≡ (Err Wrong, r) → (a : A) → Phrase f s a → ⊥
  denied {s} {r} h a (e, k) = by_meets (meets_all h e a k)
    where
      by_meets : Meets sort d e cs (Err Wrong, r) a [] → ⊥
      by_meets (done i) = ok_not_err (ap (λ z. z.0) (sym i))
      by_meets (goes t q i _ _) = cc
      by_meets (deep _ i) = cc

  -- nor are tokens of which it leaves some
  pub left_over : {s r : List T} {t : T} {b : A} → (f d).run s ≡ (Ok b, t ∷ r) → (a : A) → Phrase f s a → ⊥
  left_over {s} {r} {t} {b} h a (e, k) = by_meets (meets_all h e a k)
    where
      by_meets : Meets sort d e cs (Ok b, t ∷ r) a [] → ⊥
      by_meets (done i) = let j : t ∷ r ≡ [] = ap (λ z. z.1) i in cc
      by_meets (goes u q i _ _) = cc
      by_meets (deep _ i) = cc
