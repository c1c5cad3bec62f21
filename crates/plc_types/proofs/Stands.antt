-- What is found along an order, in which each declaration that isn't on a circle stands behind what it needs, is what the
-- names of types stand for.
use Rattle.std.proofs.Common.{◌≡◌, refl, sym, ap, ◌∙◌, ℕ, zero, suc, ◌+◌, ◌<◌, ◌≤◌, ◌≢◌, ◌⊎◌, inl, inr, List, [], ◌∷◌, length, get_or, set, take, Bool, true, false, arith, Option, Some, None}
use Rattle.std.specs.Prelude.{nat_eq, if◌then◌else◌}
use Rattle.std.specs.List.{list_any, slice_get, position_from}
use Rattle.std.specs.Option.{option_map, option_or, option_and_then, option_map_or}
use Rattle.std.proofs.lemmas.Bool.{cases_Bool}
use Rattle.std.proofs.lemmas.Bool.Decides.{nat_tests}
use Rattle.std.proofs.lemmas.List.{get_or-take, length-take, length-set, length-replicate, get_or-set_other, get_or-set_same, take_more, take_all}
use Rattle.std.proofs.lemmas.Map.Keys.{apart_from_distinct}
use Rattle.std.proofs.lemmas.Map.Steps.{length-le_from_distinct_below}
use Rattle.circles.specs.Circles.{Answer, Describes}
use Rattle.circles.specs.Needs.{is_circular}
use Rattle.circles.proofs.Paths.{any_index}
use Rattle.circles.proofs.Walks.{end_or}
use Rattle.plc_names.specs.declared.declarations.Declaration.{Declaration}
use Rattle.plc_names.specs.declared.declarations.Written.{Written}
use Rattle.plc_names.specs.declared.declarations.Written.TheVariants as written
use Rattle.plc_names.specs.declared.names.NameKind.{NameKind}
use Rattle.plc_names.specs.declared.names.NameKind.TheVariants as kind
use Rattle.plc_names.specs.declared.types.Standing.{Standing}
use Rattle.plc_names.specs.Lookup.{number_in, found_in, is_there}
use Rattle.plc_names.specs.Needs.{is_on_circle}
use Rattle.plc_names.specs.Types.{standing_written, standing_kind, standing_found, standing_in, standing_of, of_elem, elem_named}
use Rattle.plc_types.specs.Known.{standing_at, standing_numbered, standing_named}
use Rattle.plc_types.specs.Standings.{stands_for, nothing, found_along, standings, asks, asks_written, IsLinked}
use Rattle.plc_types.proofs.FoundAlong.{along-append}

-- ---- lists

position_below : {X : Type 0} (p : X → Bool) (i j : ℕ) (xs : List X) → position_from p i xs ≡ Some j → j < i + length xs
position_below p i j [] e = absurd (let x : None ≡ Some j = e in cc)
position_below p i j (x ∷ xs) e =
    elim (cases_Bool (p x)) [
      | inl t ↦ (let s : Some i ≡ Some j = sym (ap (λ b. if b then Some i else position_from p (i + 1) xs) t) ∙ e in let q : i ≡ j = cc in omega arith)
      | inr f ↦ (let s : position_from p (i + 1) xs ≡ Some j = sym (ap (λ b. if b then Some i else position_from p (i + 1) xs) f) ∙ e in let q = position_below p (i + 1) j xs s in omega arith)
    ]

there : {X : Type 0} (xs : List X) (j : ℕ) → j < length xs → slice_get xs j ≡ None → ⊥
there [] j lt e = omega arith
there (x ∷ xs) zero lt e = let h : Some x ≡ None = e in cc
there (x ∷ xs) (suc j) lt e = there xs j (omega arith) e

suc_is : (p : ℕ) → suc p ≡ p + 1
suc_is p = omega arith

earlier_or_last : (q p : ℕ) → q < suc p → (q < p) ⊎ (q ≡ p)
earlier_or_last q p lt = end_or p q (omega arith)

apart : (a b : ℕ) → nat_eq a b ≡ false → a ≢ b
apart a b e same = absurd (grind (arith, nat_tests))

-- ---- what a type stands for by what another name stands for

asks_same : (f h : List ℕ → Option Standing) (w : Written) → ((name : List ℕ) → asks_written w ≡ Some name → f name ≡ h name) → standing_written f w ≡ standing_written h w
asks_same f h written.Untyped e = refl
asks_same f h (written.Itself t) e = refl
asks_same f h (written.ByName name) e = e name refl

kind_same : (f h : List ℕ → Option Standing) (k : NameKind) (w : Written) → ((name : List ℕ) → asks k w ≡ Some name → f name ≡ h name) → standing_kind f k w ≡ standing_kind h k w
kind_same f h kind.Named w e = asks_same f h w e
kind_same f h kind.Block w e = asks_same f h w e
kind_same f h k w e = refl

-- ---- along an order

module _ (ds : List Declaration) (g : List (List ℕ)) (answer : Answer) (link : IsLinked ds g) (tells : Describes g answer) where
  -- what the declaration of a number stands for, along at most n names behind it
  abbrev by_number : ℕ → ℕ → Option Standing
  by_number n k = if is_circular g k then None else option_and_then (λ (d : Declaration). standing_kind (standing_in n ds (is_on_circle ds g)) d.kind d.ty) (slice_get ds k)

  -- what is found along the first p of the order
  abbrev found : ℕ → List (Option Standing)
  found p = found_along ds answer.circular (nothing (length ds)) (take p answer.order)

  abbrev at : ℕ → ℕ
  at p = get_or answer.order p 0

  found_is : (n j : ℕ) (name : List ℕ) → number_in ds 0 name ≡ Some j
      → standing_found (is_on_circle ds g) (standing_in n ds (is_on_circle ds g)) name (found_in ds 0 name) ≡ by_number n j
  found_is n j name e = go (slice_get ds j) refl
    where
      named : List ℕ → Option Standing
      named = standing_in n ds (is_on_circle ds g)

      below : j < length ds
      below = let h = position_below (is_there 0 name) 0 j ds e in omega arith

      go : (o : Option Declaration) → slice_get ds j ≡ o → standing_found (is_on_circle ds g) (standing_in n ds (is_on_circle ds g)) name (found_in ds 0 name) ≡ by_number n j
      go None h = absurd (there ds j below h)
      go (Some d) h =
          (λ i. standing_found (is_on_circle ds g) (standing_in n ds (is_on_circle ds g)) name (option_and_then (slice_get ds) (e i)))
          ∙ (λ i. standing_found (is_on_circle ds g) (standing_in n ds (is_on_circle ds g)) name (h i))
          ∙ (λ i. if option_map_or (is_circular g) (e i) false then None else standing_kind (standing_in n ds (is_on_circle ds g)) d.kind d.ty)
          ∙ (λ i. if is_circular g j then None else option_and_then (λ (x : Declaration). standing_kind (standing_in n ds (is_on_circle ds g)) x.kind x.ty) (sym h i))

  in_suc : (n : ℕ) (name : List ℕ) → standing_in (suc n) ds (is_on_circle ds g) name
      ≡ option_or (option_map of_elem (elem_named name)) (standing_found (is_on_circle ds g) (standing_in n ds (is_on_circle ds g)) name (found_in ds 0 name))
  unfolding standing_in
  in_suc n name = refl

  -- where what is found of the declaration of a name is right
  named_is : (n : ℕ) (now : List (Option Standing)) (name : List ℕ) → ((j : ℕ) → number_in ds 0 name ≡ Some j → standing_at now j ≡ by_number n j)
      → standing_named ds now name ≡ standing_in (suc n) ds (is_on_circle ds g) name
  named_is n now name right = ap (option_or (option_map of_elem (elem_named name))) (go (number_in ds 0 name) refl) ∙ sym (in_suc n name)
    where
      go : (o : Option ℕ) → number_in ds 0 name ≡ o → standing_numbered now name (number_in ds 0 name) ≡ standing_found (is_on_circle ds g) (standing_in n ds (is_on_circle ds g)) name (found_in ds 0 name)
      go None e = (λ i. standing_numbered now name (e i)) ∙ sym (λ i. standing_found (is_on_circle ds g) (standing_in n ds (is_on_circle ds g)) name (option_and_then (slice_get ds) (e i)))
      go (Some j) e = (λ i. standing_numbered now name (e i)) ∙ right j e ∙ sym (found_is n j name e)

  -- the first p of the order are right
  Right : ℕ → List (Option Standing) → Type 0
  Right p now = (q n : ℕ) → q < p → q < n → standing_at now (at q) ≡ by_number n (at q)

  next_is : (p n : ℕ) (now : List (Option Standing)) → p < length answer.order → p < n → ((q m : ℕ) → q < p → q < m → standing_at now (at q) ≡ by_number m (at q))
      → stands_for ds answer.circular now (at p) ≡ by_number n (at p)
  next_is p zero now within lt right = absurd (omega arith)
  next_is p (suc n) now within lt right =
      (λ i. if tells.circular (at p) i then None else option_and_then (λ (d : Declaration). standing_kind (standing_named ds now) d.kind d.ty) (slice_get ds (at p)))
      ∙ elim (cases_Bool (is_circular g (at p))) [ inl t ↦ on_circle t | inr f ↦ off_circle f (slice_get ds (at p)) refl ]
    where
      of_old : Declaration → Option Standing
      of_old d = standing_kind (standing_named ds now) d.kind d.ty

      of_new : Declaration → Option Standing
      of_new d = standing_kind (standing_in (suc n) ds (is_on_circle ds g)) d.kind d.ty

      on_circle : is_circular g (at p) ≡ true
          → (if is_circular g (at p) then None else option_and_then (λ (d : Declaration). standing_kind (standing_named ds now) d.kind d.ty) (slice_get ds (at p))) ≡ by_number (suc n) (at p)
      on_circle t =
          (λ i. if t i then None else option_and_then (λ (d : Declaration). standing_kind (standing_named ds now) d.kind d.ty) (slice_get ds (at p)))
          ∙ sym (λ i. if t i then None else option_and_then (λ (d : Declaration). standing_kind (standing_in (suc n) ds (is_on_circle ds g)) d.kind d.ty) (slice_get ds (at p)))

      stood : is_circular g (at p) ≡ false → (d : Declaration) → slice_get ds (at p) ≡ Some d → (name : List ℕ) → asks d.kind d.ty ≡ Some name → (j : ℕ) → number_in ds 0 name ≡ Some j → standing_at now j ≡ by_number n j
      stood f d h name a j e =
          let below : j < length g = (let b = position_below (is_there 0 name) 0 j ds e in let s = link.sized in omega arith) in
          let q = any_index (take p answer.order) j (tells.order.behind p within f j below (link.linked (at p) j d name h a e)) in
          let short : q.0 < p = (let l = q.1 in let t = length-take p answer.order in omega arith) in
          let is : at q.0 ≡ j = sym (get_or-take p answer.order q.0 0 short) ∙ q.2 in
          ap (standing_at now) (sym is) ∙ right q.0 n short (omega arith) ∙ ap (by_number n) is

      off_circle : is_circular g (at p) ≡ false → (o : Option Declaration) → slice_get ds (at p) ≡ o
          → (if is_circular g (at p) then None else option_and_then (λ (d : Declaration). standing_kind (standing_named ds now) d.kind d.ty) (slice_get ds (at p))) ≡ by_number (suc n) (at p)
      off_circle f None h =
          (λ i. if is_circular g (at p) then None else option_and_then (λ (d : Declaration). standing_kind (standing_named ds now) d.kind d.ty) (h i))
          ∙ sym (λ i. if is_circular g (at p) then None else option_and_then (λ (d : Declaration). standing_kind (standing_in (suc n) ds (is_on_circle ds g)) d.kind d.ty) (h i))
      off_circle f (Some d) h =
          (λ i. if is_circular g (at p) then None else option_and_then (λ (d : Declaration). standing_kind (standing_named ds now) d.kind d.ty) (h i))
          ∙ ap (λ o. if is_circular g (at p) then None else o) (kind_same (standing_named ds now) (standing_in (suc n) ds (is_on_circle ds g)) d.kind d.ty (λ name a. named_is n now name (stood f d h name a)))
          ∙ sym (λ i. if is_circular g (at p) then None else option_and_then (λ (d : Declaration). standing_kind (standing_in (suc n) ds (is_on_circle ds g)) d.kind d.ty) (h i))

  found_length : (p : ℕ) → length (found p) ≡ length ds
  found_length p = along-length (take p answer.order) (nothing (length ds)) ∙ length-replicate (length ds) None
    where
      along-length : (ks : List ℕ) (now : List (Option Standing)) → length (found_along ds answer.circular now ks) ≡ length now
      along-length [] now = refl
      along-length (k ∷ ks) now = along-length ks (set now k (stands_for ds answer.circular now k)) ∙ length-set now k (stands_for ds answer.circular now k)

  -- of one more of the order, where those before it are right
  next_right : (p : ℕ) → p < length answer.order → ((q n : ℕ) → q < p → q < n → standing_at (found p) (at q) ≡ by_number n (at q))
      → (q n : ℕ) → q < suc p → q < n → standing_at (found (suc p)) (at q) ≡ by_number n (at q)
  next_right p within before q n lt more = by (earlier_or_last q p lt)
    where
      step : found (suc p) ≡ set (found p) (at p) (stands_for ds answer.circular (found p) (at p))
      step = ap (found_along ds answer.circular (nothing (length ds))) (ap (λ k. take k answer.order) (suc_is p) ∙ take_more answer.order p 0 within) ∙ along-append ds answer.circular (nothing (length ds)) (take p answer.order) (at p ∷ [])

      by : (q < p) ⊎ (q ≡ p) → standing_at (found (suc p)) (at q) ≡ by_number n (at q)
      by (inl earlier) =
          ap (λ f. standing_at f (at q)) step
          ∙ get_or-set_other (found p) (at p) (at q) (stands_for ds answer.circular (found p) (at p)) None (apart (at q) (at p) (apart_from_distinct nat_eq answer.order q p 0 tells.order.once earlier within))
          ∙ before q n earlier more
      by (inr same) =
          ap (λ k. standing_at (found (suc p)) (at k)) same
          ∙ ap (λ f. standing_at f (at p)) step
          ∙ get_or-set_same (found p) (at p) (stands_for ds answer.circular (found p) (at p)) None (let b = tells.order.below p within in let l = found_length p in let s = link.sized in omega arith)
          ∙ next_is p n (found p) within (omega arith) before
          ∙ ap (λ k. by_number n (at k)) (sym same)

  right : (p : ℕ) → p ≤ length answer.order → (q n : ℕ) → q < p → q < n → standing_at (found p) (at q) ≡ by_number n (at q)
  right zero le = λ q n lt more. absurd (omega arith)
  right (suc p) le = next_right p (omega arith) (right p (omega arith))

  order_length : length answer.order ≤ length ds
  order_length =
      let below : (q : ℕ) → list_any (nat_eq q) answer.order ≡ true → q < length g = λ q h. (let x = any_index answer.order q h in let b = tells.order.below x.0 x.1 in let e = x.2 in omega arith) in
      let h = length-le_from_distinct_below answer.order (length g) tells.order.once below in
      let s = link.sized in omega arith

  -- the names of types stand for what is found
  pub stands : (name : List ℕ) → standing_named ds (standings ds answer) name ≡ standing_of ds g name
  stands name = named_is (length ds) (standings ds answer) name each ∙ ap (λ (n : ℕ). standing_in n ds (is_on_circle ds g) name) (suc_is (length ds))
    where
      all : found (length answer.order) ≡ standings ds answer
      all = ap (found_along ds answer.circular (nothing (length ds))) (take_all (length answer.order) answer.order (omega arith))

      each : (j : ℕ) → number_in ds 0 name ≡ Some j → standing_at (standings ds answer) j ≡ by_number (length ds) j
      each j e =
          let below : j < length g = (let b = position_below (is_there 0 name) 0 j ds e in let s = link.sized in omega arith) in
          let q = any_index answer.order j (tells.order.whole j below) in
          let short : q.0 < length ds = (let l = q.1 in let o = order_length in omega arith) in
          ap (λ f. standing_at f j) (sym all) ∙ ap (standing_at (found (length answer.order))) (sym q.2) ∙ right (length answer.order) (omega arith) q.0 (length ds) q.1 short ∙ ap (by_number (length ds)) q.2
