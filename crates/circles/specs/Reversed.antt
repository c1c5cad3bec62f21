-- What is needed by what.
use Rattle.std.specs.Prelude.{◌≡◌, ℕ, ◌<◌, List, length}
use Rattle.circles.specs.Needs.{needs}

-- the same needs, turned round
pub record IsReversed (g h : List (List ℕ)) : Type 0 where
  pub sized : length h ≡ length g
  pub turned : (b a : ℕ) → b < length g → needs h b a ≡ needs g a b
