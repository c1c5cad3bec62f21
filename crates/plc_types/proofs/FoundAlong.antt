-- What is found along an order, one more at a time.
use Rattle.std.proofs.Common.{◌≡◌, refl, sym, ap, ◌∙◌, ℕ, ◌+◌, ◌<◌, List, [], ◌∷◌, ◌++◌, length, take, get_or, Bool, Option, slice_set}
use Rattle.std.proofs.lemmas.List.{take_more}
use Rattle.plc_names.specs.declared.declarations.Declaration.{Declaration}
use Rattle.plc_names.specs.declared.types.Standing.{Standing}
use Rattle.plc_types.specs.Standings.{stands_for, found_along}

module _ (ds : List Declaration) (circular : List Bool) where
  pub along-append : (found : List (Option Standing)) (ks js : List ℕ) → found_along ds circular found (ks ++ js) ≡ found_along ds circular (found_along ds circular found ks) js
  along-append found [] js = refl
  along-append found (k ∷ ks) js = along-append (slice_set found k (stands_for ds circular found k)) ks js

  pub along-more : (found now later : List (Option Standing)) (order : List ℕ) (k : ℕ) → k < length order
      → now ≡ found_along ds circular found (take k order) → later ≡ slice_set now (get_or order k 0) (stands_for ds circular now (get_or order k 0))
      → later ≡ found_along ds circular found (take (k + 1) order)
  along-more found now later order k lt so step =
      step ∙ (λ i. slice_set (so i) (get_or order k 0) (stands_for ds circular (so i) (get_or order k 0)))
      ∙ sym (ap (found_along ds circular found) (take_more order k 0 lt) ∙ along-append found (take k order) (get_or order k 0 ∷ []))
