-- What is answered of what needs what.
use Rattle.std.specs.Prelude.{◌≡◌, ℕ, Bool, false, List, slice_index_or}
use Rattle.circles.specs.Needs.{is_circular}
use Rattle.circles.specs.Order.{IsOrder}

-- for each node whether it lies on a circle, and an order of all
pub record Answer : Type 0 where
  pub circular : List Bool
  pub order : List ℕ

pub record Describes (g : List (List ℕ)) (answer : Answer) : Type 0 where
  pub circular : (a : ℕ) → slice_index_or answer.circular a false ≡ is_circular g a
  pub order : IsOrder g answer.order
