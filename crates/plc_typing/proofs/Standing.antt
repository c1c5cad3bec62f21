-- What is met of a list of which one element has to stand.
use Rattle.std.proofs.Common.{◌≡◌, ap, ◌≤◌, List, [], ◌∷◌, length, get_or, Option, false, arith}
use Rattle.plc_base.specs.declared.refusal.Place.{Place}
use Rattle.plc_base.specs.declared.refusal.Refusal.{Refusal}
use Rattle.plc_base.specs.Least.{Meets}
use Rattle.plc_base.proofs.LeastLaws.{meets_as, meets_then}
use Rattle.plc_typing.specs.Uses.{suits, sole_faults}

-- a second one stands there
pub second_met : {X : Type 0} (at : X → Place) (faults : X → List Refusal) (missing : Place) (xs : List X) (x y : X) (a b c : Option Refusal)
    → 2 ≤ length xs → x ≡ get_or xs 0 x → y ≡ get_or xs 1 y → Meets (faults x) a b → Meets (suits false (at y)) b c → Meets (sole_faults at faults missing xs) a c
second_met at faults missing [] x y a b c le f g h k = absurd (omega (arith, le))
second_met at faults missing (u ∷ []) x y a b c le f g h k = absurd (omega (arith, le))
second_met at faults missing (u ∷ (v ∷ vs)) x y a b c le f g h k =
    meets_then (faults u) (suits false (at v)) a b c (meets_as (faults x) (faults u) a b (ap faults f) h) (meets_as (suits false (at y)) (suits false (at v)) b c (ap (λ z. suits false (at z)) g) k)
