-- The owners in an initial value as equations, with lists where the definition has rows.
use Rattle.std.proofs.Common.{◌≡◌, refl, ap, List, [], ◌∷◌, ◌++◌, Option, Some, None}
use Rattle.std.specs.List.{flat_map}
use Rattle.plc_base.specs.declared.refusal.Place.{Place}
use Rattle.plc_tree.specs.declared.tree.Id.{Id}
use Rattle.plc_tree.specs.declared.tree.Whole.{Whole}
use Rattle.plc_tree.specs.declared.tree.Init.{Init}
use Rattle.plc_tree.specs.declared.tree.Init.TheVariants as init
use Rattle.plc_tree.specs.declared.tree.Init.TheBlock.{hidden-the_row-Item-0, hidden-the_row-InitPart-1}
use Rattle.plc_tree.specs.declared.tree.Item.{Item}
use Rattle.plc_tree.specs.declared.tree.Item.TheVariants as item
use Rattle.plc_tree.specs.declared.tree.InitPart.{InitPart}
use Rattle.plc_names.specs.Needs.{init_owners, items_owners, parts_owners, element_owners, start_owners}

abbrev pub part_owners : InitPart → List Id
part_owners p = init_owners p.init

items_row : (items : List Item) → items_owners (hidden-the_row-Item-0 items) ≡ flat_map element_owners items
unfolding hidden-the_row-Item-0 denote.Hole.Carrier.hidden
items_row [] = refl
items_row (x ∷ xs) = ap (λ us. element_owners x ++ us) (items_row xs)

parts_row : (parts : List InitPart) → parts_owners (hidden-the_row-InitPart-1 parts) ≡ flat_map part_owners parts
unfolding hidden-the_row-InitPart-1 denote.Hole.Carrier.hidden
parts_row [] = refl
parts_row (p ∷ ps) = ap (λ us. part_owners p ++ us) (parts_row ps)

pub owners-List : (items : List Item) (at : Place) → init_owners (init.List items at) ≡ flat_map element_owners items
owners-List items at = items_row items

pub owners-Struct : (parts : List InitPart) (at : Place) → init_owners (init.Struct parts at) ≡ flat_map part_owners parts
owners-Struct parts at = parts_row parts

pub owners-Many : (count : Whole) (start : Option Init) → element_owners (item.Many count start) ≡ start_owners start
owners-Many count None = refl
owners-Many count (Some i) = refl
