-- The rows of declarations that are told by their numbers are those of the definition.
use Rattle.std.proofs.Common.{◌≡◌, refl, List, [], ◌∷◌, ◌++◌, map, Some}
use Rattle.std.specs.List.{flat_map}
use Rattle.plc_tree.specs.declared.tree.Unit.{Unit as Source}
use Rattle.plc_names.specs.Items.{Item}
use Rattle.plc_declared.specs.declared.order.Item.{Item as Numbered}
use Rattle.plc_declared.specs.Order.{seen}
use Rattle.plc_needs.specs.Rows.{item_rows, rows_seen, numbered_rows}

pub rows_numbered : (u : Source) (numbered : List Numbered) (items : List Item) → map (seen u) numbered ≡ map Some items → flat_map (numbered_rows u) numbered ≡ flat_map item_rows items
rows_numbered u [] [] h = refl
rows_numbered u [] (a ∷ items) h = cc
rows_numbered u (x ∷ xs) [] h = cc
rows_numbered u (x ∷ xs) (a ∷ items) h =
    let head : seen u x ≡ Some a = cc in
    let tail : map (seen u) xs ≡ map Some items = cc in
    λ i. rows_seen (head i) ++ rows_numbered u xs items tail i
