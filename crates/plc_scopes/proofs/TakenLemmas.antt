-- Whether one of the first of a list passes a test is whether the first that passes stands among them.
use Rattle.std.proofs.Common.{◌≡◌, zero, suc, refl, sym, ap, ◌∙◌, ℕ, ◌+◌, List, [], ◌∷◌, take, Bool, true, false, cond, Option, None, Some, inl, inr, arith}
use Rattle.std.specs.Prelude.{nat_lt, ◌||◌, ◌&&◌}
use Rattle.std.specs.List.{list_any, position_from}
use Rattle.std.proofs.lemmas.Bool.{cases_Bool}
use Rattle.std.proofs.lemmas.Bool.Decides.{nat_tests}
use Rattle.plc_names.specs.declared.declarations.Declaration.{Declaration}
use Rattle.plc_names.specs.Lookup.{is_there, is_global, is_global_named, number_in}
use Rattle.plc_names.specs.Rules.{clash}
use Rattle.plc_scopes.specs.Scopes.{before}
use Rattle.plc_scopes.proofs.OwnedLemmas.{from_below}

never_before : {X : Type 0} (p : X → Bool) (i : ℕ) (xs : List X) (o : Option ℕ) → position_from p i xs ≡ o → before o (i + 0) ≡ false
never_before p i xs None e = refl
never_before p i xs (Some j) e = let q = from_below p i j xs e in grind (arith, nat_tests)

pub taken : {X : Type 0} (p : X → Bool) (i n : ℕ) (xs : List X) → before (position_from p i xs) (i + n) ≡ list_any p (take n xs)
taken p i zero [] = refl
taken p i (suc n) [] = refl
taken p i zero (x ∷ xs) = never_before p i (x ∷ xs) (position_from p i (x ∷ xs)) refl
taken p i (suc n) (x ∷ xs) =
    elim (cases_Bool (p x)) [
      | inl t ↦ ap (λ b. before (cond b (Some i) (position_from p (i + 1) xs)) (i + suc n)) t ∙ here i n ∙ sym (ap (λ b. b || list_any p (take n xs)) t)
      | inr f ↦ ap (λ b. before (cond b (Some i) (position_from p (i + 1) xs)) (i + suc n)) f
          ∙ ap (before (position_from p (i + 1) xs)) (let q : i + suc n ≡ (i + 1) + n = omega arith in q)
          ∙ taken p (i + 1) n xs ∙ sym (ap (λ b. b || list_any p (take n xs)) f)
    ]
  where
    here : (i n : ℕ) → nat_lt i (i + suc n) ≡ true
    here i n = grind (arith, nat_tests)

regrouped : (a b c d e : Bool) → ((a || (b && c)) || (d || (b && e))) ≡ ((a || d) || (b && (c || e)))
regrouped true b c d e = refl
regrouped false false c true e = refl
regrouped false false c false e = refl
regrouped false true true true e = refl
regrouped false true true false e = refl
regrouped false true false d e = refl

any_or : {X : Type 0} (p q : X → Bool) (b : Bool) (xs : List X) → list_any (λ x. p x || (b && q x)) xs ≡ (list_any p xs || (b && list_any q xs))
any_or p q true [] = refl
any_or p q false [] = refl
any_or p q b (x ∷ xs) = ap (λ t. (p x || (b && q x)) || t) (any_or p q b xs) ∙ regrouped (p x) b (q x) (list_any p xs) (list_any q xs)

pub is_taken : (ds : List Declaration) (n : ℕ) (d : Declaration)
    → (before (number_in ds d.scope d.name) n || (is_global d.kind && before (position_from (is_global_named d.name) 0 ds) n)) ≡ list_any (clash d) (take n ds)
is_taken ds n d =
    (λ i. at_zero (is_there d.scope d.name) n ds i || (is_global d.kind && at_zero (is_global_named d.name) n ds i))
    ∙ sym (any_or (is_there d.scope d.name) (is_global_named d.name) (is_global d.kind) (take n ds))
  where
    at_zero : (p : Declaration → Bool) (n : ℕ) (xs : List Declaration) → before (position_from p 0 xs) n ≡ list_any p (take n xs)
    at_zero p n xs = ap (before (position_from p 0 xs)) (let q : n ≡ 0 + n = omega arith in q) ∙ taken p 0 n xs
