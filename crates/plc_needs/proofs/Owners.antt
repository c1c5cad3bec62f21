-- The owners in initial values as equations, with lists where the definitions have rows.
use Rattle.std.proofs.Common.{◌≡◌, refl, ap, List, [], ◌∷◌, ◌++◌, Option, Some, None}
use Rattle.std.specs.List.{flat_map}
use Rattle.plc_base.specs.declared.refusal.Place.{Place}
use Rattle.plc_tree.specs.declared.tree.Whole.{Whole}
use Rattle.plc_tree.specs.declared.tree.Init.{Init}
use Rattle.plc_tree.specs.declared.tree.Init as init
use Rattle.plc_tree.specs.declared.tree.Item.{Item}
use Rattle.plc_tree.specs.declared.tree.Item as in_item
use Rattle.plc_tree.specs.declared.tree.InitPart.{InitPart}
use Rattle.plc_tree.specs.declared.tree.Init.TheBlock.{hidden-the_row-Item-0, hidden-the_row-InitPart-1}
use Rattle.plc_names.specs.Needs.{init_owners, items_owners, element_owners, parts_owners, start_owners}
use Rattle.plc_needs.specs.Parts.{field_owners}

items_row : (items : List Item) → items_owners (hidden-the_row-Item-0 items) ≡ flat_map element_owners items
unfolding hidden-the_row-Item-0 denote.Hole.Carrier.hidden
items_row [] = refl
items_row (i ∷ items) = ap (λ ns. element_owners i ++ ns) (items_row items)

parts_row : (parts : List InitPart) → parts_owners (hidden-the_row-InitPart-1 parts) ≡ flat_map field_owners parts
unfolding hidden-the_row-InitPart-1 denote.Hole.Carrier.hidden
parts_row [] = refl
parts_row (p ∷ parts) = ap (λ ns. field_owners p ++ ns) (parts_row parts)

pub owners-List : (items : List Item) (at : Place) → init_owners (init.List items at) ≡ flat_map element_owners items
owners-List items at = items_row items

pub owners-Struct : (parts : List InitPart) (at : Place) → init_owners (init.Struct parts at) ≡ flat_map field_owners parts
owners-Struct parts at = parts_row parts

pub owners-Many : (count : Whole) (start : Option Init) → element_owners (in_item.Many count start) ≡ start_owners start
owners-Many count None = refl
owners-Many count (Some x) = refl
