-- Lists of refusals that are empty.
use Rattle.std.proofs.Common.{◌≡◌, refl, List, [], ◌∷◌, ◌++◌, Bool, true, false}
use Rattle.plc_base.specs.declared.refusal.Place.{Place}
use Rattle.plc_base.specs.declared.refusal.Refusal.{Refusal}
use Rattle.plc_base.specs.declared.refusal.Rule.TheVariants.{NotYet}
use Rattle.plc_typing.specs.Uses.{suits}

some_is_not_none : (r : Refusal) (rs : List Refusal) → r ∷ rs ≡ [] → ⊥
some_is_not_none r rs e = cc

-- of two lists
pub none_of_both : (us vs : List Refusal) → us ++ vs ≡ [] → (us ≡ []) × (vs ≡ [])
none_of_both [] vs e = (refl, e)
none_of_both (u ∷ us) vs e = absurd (some_is_not_none u (us ++ vs) e)

-- what doesn't suit its place is broken
pub broken_there : (at : Place) → suits false at ≡ [] → ⊥
broken_there at e = some_is_not_none (record { rule = NotYet; place = at }) [] e

-- what its place wants holds
pub holds : (does : Bool) (at : Place) → suits does at ≡ [] → does ≡ true
holds true at e = refl
holds false at e = absurd (broken_there at e)
