-- An order in which each node that isn't circular stands behind all that it needs.
use Rattle.std.specs.Prelude.{◌≡◌, ℕ, nat_eq, ◌<◌, true, false, List, length, take, slice_index}
use Rattle.std.specs.List.{list_any, IsDistinct}
use Rattle.circles.specs.Needs.{needs, is_circular}

-- whether a node stands in a list
abbrev pub Stands : ℕ → List ℕ → Type 0
Stands a nodes = list_any (nat_eq a) nodes ≡ true

pub record IsOrder (g : List (List ℕ)) (order : List ℕ) : Type 0 where
  -- each node of the graph stands in it, no other, and none twice
  pub once : IsDistinct nat_eq order
  pub whole : (a : ℕ) → a < length g → Stands a order
  pub below : (p : ℕ) → p < length order → slice_index order p < length g
  -- what a node needs stands before it, unless the node is circular
  pub behind : (p : ℕ) → p < length order → is_circular g (slice_index order p) ≡ false → (b : ℕ) → b < length g → needs g (slice_index order p) b ≡ true → Stands b (take p order)
