-- What stands under one more node is what stood with fewer, so that one induction on the number of nodes ties the knot.
use Rattle.std.proofs.Common.{◌≡◌, ℕ, zero, suc, Bool, true, false, List, refl, sym, ◌∙◌, ap, subst}
use mathlib.Core.Path.{fun_ext}
use Rattle.phrase.specs.Piece.{Sight, Piece, none, also}
use Rattle.phrase.proofs.Basics.{not_both}
use Rattle.phrase.proofs.Rules.{Laws, under, under_half, under_law}

pub is_under : {T S : Type 0} {s : Sight T S} {A : Type 0} (x f : ℕ → Piece s A) → none ≡ x zero → ((n : ℕ) → also (x n) (f n) ≡ x (suc n)) → under f ≡ x
is_under x f z next = fun_ext each
  where
    each : (n : ℕ) → under f n ≡ x n
    each zero = z
    each (suc n) = ap (λ y. also y (f n)) (each n) ∙ next n

pub shut : {T S : Type 0} {s : Sight T S} {A : Type 0} {d : ℕ} {n g : Bool} {fs cs : List S} (x f : ℕ → Piece s A) → under f ≡ x → (e : ℕ) (w : List T) (a : A) → (f e).lang w a → Laws false d n g fs cs x
shut {s} {A} {d} {n} {g} {fs} {cs} x f p e w a k = subst (Laws false d n g fs cs) p (record { half = under_half f (e, w, a, k); law = λ h. not_both refl (sym h) })

pub lifted : {T S : Type 0} {s : Sight T S} {A : Type 0} {on : Bool} {d : ℕ} {n g : Bool} {fs cs : List S} (x f : ℕ → Piece s A) → under f ≡ x → Laws true d n g fs cs f → Laws on (suc d) n g fs cs x
lifted {s} {A} {on} {d} {n} {g} {fs} {cs} x f p l =
    let m = under_law f (l.law refl) in
    subst (Laws on (suc d) n g fs cs) p (record { half = record { mono = m.mono; some = m.some }; law = λ _. m })
