use Rattle.std.proofs.Common.{◌≡◌, ℕ, ◌<◌, List, ◌++◌, ◌∷◌, [], sym, ap, ◌∙◌, length, map, get_or, arith}
use Rattle.std.specs.Prelude.{slice_set}
use Rattle.std.proofs.lemmas.List.{length-map, map-set, get_or-map}
use Rattle.circles.specs.Needs.{with_need}
use Rattle.circles.proofs.needs.Needs.add.Goals as goal

added : {V : Type 0} (vs : List V) (f : V → List ℕ) (g : List (List ℕ)) (i : ℕ) (old new : V) (x : ℕ) → map f vs ≡ g → i < length g → old ≡ get_or vs i old → f new ≡ f old ++ x ∷ [] → map f (slice_set vs i new) ≡ with_need g i x
added vs f g i old new x is lt at grown =
    let few : i < length vs = omega (arith, ap length is, length-map vs f) in
    map-set f vs i new ∙ ap (λ r. slice_set (map f vs) i r) (grown ∙ ap (λ r. r ++ x ∷ []) (ap f at ∙ sym (get_or-map f vs i old [] few))) ∙ ap (λ h. with_need h i x) is

pub returns : goal.returns
returns c = added c.self.inside.rows.items (λ row. row.items) c.args.self.now c.args.node c.index_mut-row.result.now c.push.new.self c.args.other c.self.view_is c.requires c.index_mut-row.ensures.value c.in_ok-push.ensures.items
