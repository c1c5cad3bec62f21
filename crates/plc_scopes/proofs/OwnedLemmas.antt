-- The list beside a name, by the place of the name.
use Rattle.std.proofs.Common.{◌≡◌, zero, suc, refl, sym, ap, ◌∙◌, ℕ, ◌+◌, ◌≤◌, List, [], ◌∷◌, get_or, Bool, cond, None, Some, inl, inr, arith}
use Rattle.std.specs.List.{position, position_from}
use Rattle.std.specs.Str.{bytes_eq}
use Rattle.std.proofs.lemmas.Bool.{cases_Bool}
use Rattle.std.proofs.lemmas.Iterator.Adapters.{position_from-zero}
use Rattle.plc_names.specs.declared.types.TypeId.{TypeId}
use Rattle.plc_scopes.specs.Lists.{owned}

none_is_not_some : {X : Type 0} (x : X) → None ≡ Some x → ⊥
none_is_not_some x e = cc

same_some : (i j : ℕ) → Some i ≡ Some j → i ≡ j
same_some i j e = cc

pub from_below : {X : Type 0} (p : X → Bool) (i j : ℕ) (xs : List X) → position_from p i xs ≡ Some j → i ≤ j
from_below p i j [] e = absurd (none_is_not_some j e)
from_below p i j (x ∷ xs) e =
    elim (cases_Bool (p x)) [
      | inl t ↦ (let q = same_some i j (sym (ap (λ b. cond b (Some i) (position_from p (i + 1) xs)) t) ∙ e) in omega arith)
      | inr f ↦ (let q = from_below p (i + 1) j xs (sym (ap (λ b. cond b (Some i) (position_from p (i + 1) xs)) f) ∙ e) in omega arith)
    ]

no_list : (name : List ℕ) (i : ℕ) (names : List (List ℕ)) (lists : List (List TypeId)) → position_from (bytes_eq name) i names ≡ None → owned names lists name ≡ []
no_list name i [] lists e = refl
no_list name i (n ∷ names) [] e = refl
no_list name i (n ∷ names) (l ∷ lists) e =
    elim (cases_Bool (bytes_eq name n)) [
      | inl t ↦ absurd (none_is_not_some i (sym e ∙ ap (λ b. cond b (Some i) (position_from (bytes_eq name) (i + 1) names)) t))
      | inr f ↦ ap (λ b. cond b l (owned names lists name)) f ∙ no_list name (i + 1) names lists (sym (ap (λ b. cond b (Some i) (position_from (bytes_eq name) (i + 1) names)) f) ∙ e)
    ]

list_from : (name : List ℕ) (i k : ℕ) (names : List (List ℕ)) (lists : List (List TypeId)) → position_from (bytes_eq name) i names ≡ Some (i + k) → owned names lists name ≡ get_or lists k []
list_from name i k [] lists e = absurd (none_is_not_some (i + k) e)
list_from name i k (n ∷ names) [] e = refl
list_from name i zero (n ∷ names) (l ∷ lists) e =
    elim (cases_Bool (bytes_eq name n)) [
      | inl t ↦ ap (λ b. cond b l (owned names lists name)) t
      | inr f ↦ absurd (let q = from_below (bytes_eq name) (i + 1) (i + 0) names (sym (ap (λ b. cond b (Some i) (position_from (bytes_eq name) (i + 1) names)) f) ∙ e) in omega arith)
    ]
list_from name i (suc k) (n ∷ names) (l ∷ lists) e =
    elim (cases_Bool (bytes_eq name n)) [
      | inl t ↦ absurd (let q = same_some i (i + suc k) (sym (ap (λ b. cond b (Some i) (position_from (bytes_eq name) (i + 1) names)) t) ∙ e) in omega arith)
      | inr f ↦ ap (λ b. cond b l (owned names lists name)) f
          ∙ list_from name (i + 1) k names lists (sym (ap (λ b. cond b (Some i) (position_from (bytes_eq name) (i + 1) names)) f) ∙ e ∙ ap Some (let q : i + suc k ≡ (i + 1) + k = omega arith in q))
    ]

pub list_at_place : (name : List ℕ) (k : ℕ) (names : List (List ℕ)) (lists : List (List TypeId)) → position (bytes_eq name) names ≡ Some k → owned names lists name ≡ get_or lists k []
list_at_place name k names lists e = list_from name 0 k names lists (sym (position_from-zero (bytes_eq name) names) ∙ e ∙ ap Some (let q : k ≡ 0 + k = omega arith in q))

pub no_list_at : (name : List ℕ) (names : List (List ℕ)) (lists : List (List TypeId)) → position (bytes_eq name) names ≡ None → owned names lists name ≡ []
no_list_at name names lists e = no_list name 0 names lists (sym (position_from-zero (bytes_eq name) names) ∙ e)
