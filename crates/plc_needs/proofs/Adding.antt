-- Numbers that are put behind those that were gathered before, one list after the other.
use Rattle.std.proofs.Common.{◌≡◌, sym, ap, ◌∙◌, ℕ, ◌+◌, ◌<◌, List, [], ◌∷◌, ◌++◌, length, take, get_or, append-nil, append_assoc, Result, OnOk}
use Rattle.std.specs.List.{flat_map}
use Rattle.std.proofs.lemmas.Grind.{flat_map-append}
use Rattle.std.proofs.lemmas.List.{take_more}
use Rattle.std.proofs.lemmas.List.Elements.{filter_map-append}
use Rattle.std.proofs.lemmas.Result.{on_ok_weaker}
use Rattle.plc_tree.specs.declared.tree.Id.{Id}
use Rattle.plc_names.specs.declared.declarations.Declaration.{Declaration}
use Rattle.plc_names.specs.Lookup.{number_in}
use Rattle.plc_names.specs.Needs.{numbers_needed}
use Rattle.plc_needs.specs.Row.{Adds}

module _ (ds : List Declaration) where
  numbers-append : (xs ys : List Id) → numbers_needed ds (xs ++ ys) ≡ numbers_needed ds xs ++ numbers_needed ds ys
  numbers-append xs ys = filter_map-append (λ (n : Id). number_in ds 0 n.name) xs ys

  -- no name
  pub adds_none : (a : List ℕ) → Adds ds [] a a
  adds_none a = sym (append-nil a)

  -- one list, and then the other one
  pub adds_then : (xs ys : List Id) (a b c : List ℕ) → Adds ds xs a b → Adds ds ys b c → Adds ds (xs ++ ys) a c
  adds_then xs ys a b c h g =
      g ∙ ap (λ row. row ++ numbers_needed ds ys) h ∙ append_assoc a (numbers_needed ds xs) (numbers_needed ds ys) ∙ ap (λ row. a ++ row) (sym (numbers-append xs ys))

  -- the same, unless the call that adds the other one stops
  pub adds_next : {T E : Type 0} (r : Result T E) (xs ys : List Id) (a b c : List ℕ) → Adds ds xs a b → OnOk r (Adds ds ys b c) → OnOk r (Adds ds (xs ++ ys) a c)
  adds_next r xs ys a b c h g = on_ok_weaker r (adds_then xs ys a b c h) g

  -- those that are given by an equation
  pub adds_as : (xs ys : List Id) (a b : List ℕ) → xs ≡ ys → Adds ds xs a b → Adds ds ys a b
  adds_as xs ys a b e h = h ∙ ap (λ names. a ++ numbers_needed ds names) e

  -- of a value that is given by an equation
  pub adds_of : {X : Type 0} (f : X → List Id) (x y : X) (a b : List ℕ) → x ≡ y → Adds ds (f x) a b → Adds ds (f y) a b
  adds_of f x y a b e h = adds_as (f x) (f y) a b (ap f e) h

  pub adds_each : {X : Type 0} (f : X → List Id) (xs ys : List X) (a b : List ℕ) → xs ≡ ys → Adds ds (flat_map f xs) a b → Adds ds (flat_map f ys) a b
  adds_each f xs ys a b e h = adds_as (flat_map f xs) (flat_map f ys) a b (ap (flat_map f) e) h

  -- the names of a value that is given by an equation, where they are these
  pub adds_with : {X : Type 0} {T E : Type 0} (f : X → List Id) (x y : X) (names : List Id) (r : Result T E) (a b : List ℕ)
      → x ≡ y → f y ≡ names → OnOk r (Adds ds names a b) → OnOk r (Adds ds (f x) a b)
  adds_with f x y names r a b e g h = on_ok_weaker r (adds_as names (f x) a b (sym (ap f e ∙ g))) h

  -- a loop over a list, each element with its names
  pub adds_on : {X : Type 0} (f : X → List Id) (xs : List X) (k : ℕ) (x : X) (a b c : List ℕ) → k < length xs → x ≡ get_or xs k x
      → Adds ds (flat_map f (take k xs)) a b → Adds ds (f x) b c → Adds ds (flat_map f (take (k + 1) xs)) a c
  adds_on f xs k x a b c lt is h g =
      adds_as (flat_map f (take k xs) ++ f x) (flat_map f (take (k + 1) xs)) a c
      (sym (ap (flat_map f) (take_more xs k x lt) ∙ flat_map-append f (take k xs) (get_or xs k x ∷ []) ∙ ap (λ y. flat_map f (take k xs) ++ (f y ++ [])) (sym is) ∙ ap (λ ys. flat_map f (take k xs) ++ ys) (append-nil (f x))))
      (adds_then (flat_map f (take k xs)) (f x) a b c h g)
