-- Rows that are put behind those before, one list after the other.
use Rattle.std.proofs.Common.{◌≡◌, refl, sym, ap, ◌∙◌, ℕ, ◌+◌, ◌-◌, ◌<◌, List, [], ◌∷◌, ◌++◌, length, take, get_or, append-nil, append_assoc, length-append, arith, Result, OnOk}
use Rattle.std.specs.Prelude.{replicate}
use Rattle.std.specs.List.{flat_map}
use Rattle.std.proofs.lemmas.Grind.{flat_map-append}
use Rattle.std.proofs.lemmas.List.{take_more, map-append}
use Rattle.std.proofs.lemmas.Result.{on_ok_weaker}
use Rattle.circles.specs.Needs.{with_need}
use Rattle.plc_tree.specs.declared.tree.Id.{Id}
use Rattle.plc_names.specs.declared.declarations.Declaration.{Declaration}
use Rattle.plc_names.specs.Needs.{numbers_needed, graph}
use Rattle.plc_needs.specs.Rows.{Grows, empty_rows}

-- ---- the last row

one_more : (front : List (List ℕ)) (row : List ℕ) (x : ℕ) → with_need (front ++ row ∷ []) (length front) x ≡ front ++ (row ++ x ∷ []) ∷ []
one_more [] row x = refl
one_more (f ∷ front) row x = ap (λ rows. f ∷ rows) (one_more front row x)

-- the last row grows by a number
pub last_grows : (front : List (List ℕ)) (row : List ℕ) (x : ℕ) (old : List (List ℕ)) → old ≡ front ++ row ∷ [] → with_need old (length old - 1) x ≡ front ++ (row ++ x ∷ []) ∷ []
last_grows front row x old is =
    let last : length (front ++ row ∷ []) - 1 ≡ length front = omega (arith, length-append front (row ∷ [])) in
    ap (λ g. with_need g (length g - 1) x) is ∙ ap (λ n. with_need (front ++ row ∷ []) n x) last ∙ one_more front row x

-- ---- empty rows

module _ (ds : List Declaration) where
  pub empty_graph : {X : Type 0} (xs : List X) → replicate (length xs) [] ≡ graph ds (empty_rows xs)
  empty_graph [] = refl
  empty_graph (x ∷ xs) = ap (λ rows. [] ∷ rows) (empty_graph xs)

  -- ---- rows in a row

  graph-append : (xs ys : List (List Id)) → graph ds (xs ++ ys) ≡ graph ds xs ++ graph ds ys
  graph-append xs ys = map-append (numbers_needed ds) xs ys

  pub grows_none : (a : List (List ℕ)) → Grows ds [] a a
  grows_none a = sym (append-nil a)

  -- one list, and then the other one
  pub grows_then : (xs ys : List (List Id)) (a b c : List (List ℕ)) → Grows ds xs a b → Grows ds ys b c → Grows ds (xs ++ ys) a c
  grows_then xs ys a b c h g =
      g ∙ ap (λ rows. rows ++ graph ds ys) h ∙ append_assoc a (graph ds xs) (graph ds ys) ∙ ap (λ rows. a ++ rows) (sym (graph-append xs ys))

  -- the same, unless the call that adds the other one stops
  pub grows_next : {T E : Type 0} (r : Result T E) (xs ys : List (List Id)) (a b c : List (List ℕ)) → Grows ds xs a b → OnOk r (Grows ds ys b c) → OnOk r (Grows ds (xs ++ ys) a c)
  grows_next r xs ys a b c h g = on_ok_weaker r (grows_then xs ys a b c h) g

  -- those that are given by an equation
  pub grows_as : (xs ys : List (List Id)) (a b : List (List ℕ)) → xs ≡ ys → Grows ds xs a b → Grows ds ys a b
  grows_as xs ys a b e h = h ∙ ap (λ rows. a ++ graph ds rows) e

  pub grows_each : {X : Type 0} (f : X → List (List Id)) (xs ys : List X) (a b : List (List ℕ)) → xs ≡ ys → Grows ds (flat_map f xs) a b → Grows ds (flat_map f ys) a b
  grows_each f xs ys a b e h = grows_as (flat_map f xs) (flat_map f ys) a b (ap (flat_map f) e) h

  -- empty ones, as many as a list has elements
  pub grows_empty : {X : Type 0} (xs : List X) (n : ℕ) (a b : List (List ℕ)) → n ≡ length xs → b ≡ a ++ replicate n [] → Grows ds (empty_rows xs) a b
  grows_empty xs n a b e h = h ∙ ap (λ k. a ++ replicate k []) e ∙ ap (λ rows. a ++ rows) (empty_graph xs)

  -- a loop over a list, each element with its rows
  pub grows_on : {X : Type 0} (f : X → List (List Id)) (xs : List X) (k : ℕ) (x : X) (a b c : List (List ℕ)) → k < length xs → x ≡ get_or xs k x
      → Grows ds (flat_map f (take k xs)) a b → Grows ds (f x) b c → Grows ds (flat_map f (take (k + 1) xs)) a c
  grows_on f xs k x a b c lt is h g =
      grows_as (flat_map f (take k xs) ++ f x) (flat_map f (take (k + 1) xs)) a c
      (sym (ap (flat_map f) (take_more xs k x lt) ∙ flat_map-append f (take k xs) (get_or xs k x ∷ []) ∙ ap (λ y. flat_map f (take k xs) ++ (f y ++ [])) (sym is) ∙ ap (λ ys. flat_map f (take k xs) ++ ys) (append-nil (f x))))
      (grows_then (flat_map f (take k xs)) (f x) a b c h g)
