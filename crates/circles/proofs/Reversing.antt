-- A node more that needs nothing.
use Rattle.std.proofs.Common.{◌≡◌, refl, ℕ, zero, suc, List, [], ◌∷◌, ◌++◌}
use Rattle.circles.specs.Needs.{needs}

pub needs_more : (h : List (List ℕ)) (b a : ℕ) → needs (h ++ [] ∷ []) b a ≡ needs h b a
needs_more [] zero a = refl
needs_more [] (suc b) a = refl
needs_more (r ∷ h) zero a = refl
needs_more (r ∷ h) (suc b) a = needs_more h b a
