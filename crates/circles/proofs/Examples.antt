-- Small graphs, by computation.
use Rattle.std.proofs.Common.{◌≡◌, refl, ℕ, List, [], ◌∷◌, true, false, map, arith}
use Rattle.circles.specs.Needs.{leads, is_circular, with_need}
use Rattle.circles.specs.Order.{IsOrder}

-- 0 and 1 need each other, 2 needs itself, 3 needs 0 and 4, and 4 needs 9, which isn't there
small : List (List ℕ)
small = (1 ∷ []) ∷ (0 ∷ []) ∷ (2 ∷ []) ∷ (0 ∷ 4 ∷ 4 ∷ []) ∷ (9 ∷ []) ∷ []

circular : map (is_circular small) (0 ∷ 1 ∷ 2 ∷ 3 ∷ 4 ∷ 9 ∷ []) ≡ true ∷ true ∷ true ∷ false ∷ false ∷ false ∷ []
unfolding small
circular = refl

-- what leads to a circle doesn't lie on it
through_two : leads 2 small 3 1 ≡ true
unfolding small
through_two = refl

-- a circle of three is seen in the third need
circle : List (List ℕ)
circle = (1 ∷ []) ∷ (2 ∷ []) ∷ (0 ∷ []) ∷ []

too_few : leads 1 circle 0 0 ≡ false
unfolding circle
too_few = refl

enough : leads 2 circle 0 0 ≡ true
unfolding circle
enough = refl

on_it : map (is_circular circle) (0 ∷ 1 ∷ 2 ∷ 3 ∷ []) ≡ true ∷ true ∷ true ∷ false ∷ []
unfolding circle
on_it = refl

-- a need that closes a chain makes a circle of it
closed_chain : with_need ((1 ∷ []) ∷ (2 ∷ []) ∷ [] ∷ []) 2 0 ≡ circle
unfolding circle
closed_chain = refl

-- 0 needs 1, so it doesn't stand in front
in_front : IsOrder ((1 ∷ []) ∷ [] ∷ []) (0 ∷ 1 ∷ []) → ⊥
in_front o = none (o.behind 0 (omega arith) refl 1 (omega arith) refl)
  where
    none : false ≡ true → ⊥
    none e = cc
