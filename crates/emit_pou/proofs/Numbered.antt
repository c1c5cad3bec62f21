-- Variables that are numbered one after the other are found by their places.
use Rattle.std.proofs.Common.{◌≡◌, refl, sym, ap, ◌∙◌, ℕ, zero, suc, ◌+◌, ◌-◌, ◌<◌, ◌≤◌, Bor, List, [], ◌∷◌, arith, true, false, Option, Some, None}
use Rattle.std.specs.Prelude.{nat_eq, if◌then◌else◌}
use Rattle.std.specs.List.{slice_get}
use Rattle.std.specs.Option.{option_copied}
use Rattle.std.specs.Slice.{IsItemAt}
use Rattle.std.proofs.lemmas.Bool.Decides.{nat_tests}
use Rattle.std.proofs.lemmas.Option.{none-some, same_Some, slice_get_past, slice_get-get_or}
use Rattle.plc_tree.specs.declared.typed.TVar.{TVar}
use Rattle.plc_tree.specs.WellTyped.{var_in, AreNumbered, AreNumberedFrom}

-- the first variable has the number, or it has another
pub var_here : (v : TVar) (vs : List TVar) (id : ℕ) → v.id ≡ id → var_in (v ∷ vs) id ≡ Some v
var_here v vs id e = let t : nat_eq v.id id ≡ true = grind (arith, nat_tests) in ap (λ b. if b then Some v else var_in vs id) t

pub var_later : (v : TVar) (vs : List TVar) (id : ℕ) → (v.id ≡ id → ⊥) → var_in (v ∷ vs) id ≡ var_in vs id
var_later v vs id h = let f : nat_eq v.id id ≡ false = grind (arith, nat_tests) in ap (λ b. if b then Some v else var_in vs id) f

-- none has a number before the first
pub none_before : (k : ℕ) (vs : List TVar) (id : ℕ) → AreNumberedFrom k vs → id < k → var_in vs id ≡ None
none_before k [] id n h = refl
none_before k (v ∷ vs) id n h = let e : v.id ≡ k = n.0 in var_later v vs id (λ f. omega (arith, e, h, f)) ∙ none_before (k + 1) vs id n.1 (omega (arith, h))

-- each stands as far behind the first as its number says
pub var_at : (k : ℕ) (vs : List TVar) (d : ℕ) → AreNumberedFrom k vs → var_in vs (k + d) ≡ slice_get vs d
var_at k [] d n = refl
var_at k (v ∷ vs) zero n = let e : v.id ≡ k = n.0 in var_here v vs (k + 0) (omega (arith, e))
var_at k (v ∷ vs) (suc d) n =
    let e : v.id ≡ k = n.0 in
    let after : k + suc d ≡ (k + 1) + d = omega arith in
    var_later v vs (k + suc d) (λ f. omega (arith, e, f)) ∙ ap (var_in vs) after ∙ var_at (k + 1) vs d n.1

-- ---- by the first

first_is : (k : ℕ) (vs : List TVar) (v : TVar) → AreNumberedFrom k vs → slice_get vs 0 ≡ Some v → v.id ≡ k
first_is k [] v n e = absurd (none-some v e)
first_is k (w ∷ vs) v n e = ap (λ (u : TVar). u.id) (sym (same_Some w v e)) ∙ n.0

module _ (vs : List TVar) (id : ℕ) (v : TVar) (n : AreNumbered vs) (e : slice_get vs 0 ≡ Some v) where
  pub before_first : id < v.id → None ≡ var_in vs id
  before_first h = let f : v.id ≡ n.first = first_is n.first vs v n.from e in sym (none_before n.first vs id n.from (omega (arith, f, h)))

  pub from_first : v.id ≤ id → slice_get vs (id - v.id) ≡ var_in vs id
  from_first h =
      let f : v.id ≡ n.first = first_is n.first vs v n.from e in
      let at : n.first + (id - v.id) ≡ id = omega (arith, f, h) in
      sym (ap (var_in vs) (sym at) ∙ var_at n.first vs (id - v.id) n.from)

-- what a slice lends
pub lent : {X : Type 0} (xs : List X) (i : ℕ) (r : Option (Bor X)) → IsItemAt xs i r → option_copied r ≡ slice_get xs i
lent xs i None h = sym (slice_get_past xs i h.3)
lent xs i (Some x) h = sym (slice_get-get_or xs i x.now h.3.0 ∙ ap Some (sym (h.3.1 x.now)))
