-- What is met of the owners in an initial value, put together of what is met of its parts.
use Rattle.std.proofs.Common.{◌≡◌, refl, sym, ap, ◌∙◌, List, [], ◌∷◌, ◌++◌, append_assoc, map, Bool, Option}
use Rattle.std.specs.List.{flat_map}
use Rattle.std.proofs.lemmas.Grind.{flat_map-append}
use Rattle.std.proofs.lemmas.List.{map-append}
use Rattle.plc_base.specs.declared.refusal.Place.{Place}
use Rattle.plc_base.specs.declared.refusal.Refusal.{Refusal}
use Rattle.plc_base.specs.Least.{Meets}
use Rattle.plc_base.proofs.LeastLaws.{meets_as}
use Rattle.plc_tree.specs.declared.tree.Id.{Id}
use Rattle.plc_tree.specs.declared.tree.Init.{Init}
use Rattle.plc_tree.specs.declared.tree.Init.TheVariants as init
use Rattle.plc_tree.specs.declared.tree.Item.{Item}
use Rattle.plc_tree.specs.declared.tree.InitPart.{InitPart}
use Rattle.plc_names.specs.declared.wants.Want.TheVariants.{AnEnum}
use Rattle.plc_names.specs.Needs.{init_owners, element_owners}
use Rattle.plc_names.specs.Types.{World}
use Rattle.plc_names.specs.Uses.{use_of}
use Rattle.plc_names.proofs.InitViews.{part_owners, owners-List, owners-Struct}
use Rattle.plc_uses.specs.Faults.{use_faults, owners_faults, element_faults, part_faults}

module _ (forward : Bool) (w : World) where
  owners-append : (xs ys : List Id) → owners_faults forward w (xs ++ ys) ≡ owners_faults forward w xs ++ owners_faults forward w ys
  owners-append xs ys = ap (flat_map (use_faults forward w)) (map-append (use_of AnEnum) xs ys) ∙ flat_map-append (use_faults forward w) (map (use_of AnEnum) xs) (map (use_of AnEnum) ys)

  owners-each : {X : Type 0} (f : X → List Id) (xs : List X) → owners_faults forward w (flat_map f xs) ≡ flat_map (λ x. owners_faults forward w (f x)) xs
  owners-each f [] = refl
  owners-each f (x ∷ xs) = owners-append (f x) (flat_map f xs) ∙ ap (λ us. owners_faults forward w (f x) ++ us) (owners-each f xs)

  pub list_met : (i : Init) (items xs : List Item) (at : Place) (a b : Option Refusal) → i ≡ init.List items at → xs ≡ items
      → Meets (flat_map (element_faults forward w) xs) a b → Meets (owners_faults forward w (init_owners i)) a b
  list_met i items xs at a b is same =
      meets_as (flat_map (element_faults forward w) xs) (owners_faults forward w (init_owners i)) a b
      (ap (flat_map (element_faults forward w)) same ∙ sym (owners-each element_owners items) ∙ ap (owners_faults forward w) (sym (owners-List items at) ∙ ap init_owners (sym is)))

  pub struct_met : (i : Init) (parts xs : List InitPart) (at : Place) (a b : Option Refusal) → i ≡ init.Struct parts at → xs ≡ parts
      → Meets (flat_map (part_faults forward w) xs) a b → Meets (owners_faults forward w (init_owners i)) a b
  struct_met i parts xs at a b is same =
      meets_as (flat_map (part_faults forward w) xs) (owners_faults forward w (init_owners i)) a b
      (ap (flat_map (part_faults forward w)) same ∙ sym (owners-each part_owners parts) ∙ ap (owners_faults forward w) (sym (owners-Struct parts at) ∙ ap init_owners (sym is)))
