-- What the items of the code stand for. They hold numbers where those of the definition hold trees.
use Rattle.std.specs.Prelude.{ℕ, List, [], ◌∷◌, nat_le, if◌then◌else◌, Option, slice_get}
use Rattle.std.specs.Option.{option_map}
use Rattle.plc_tree.specs.declared.tree.Unit.{Unit as Source}
use Rattle.plc_names.specs.Items.{What, AType, APou, AConfig, Item}
use Rattle.plc_declared.specs.declared.order.Item.{Item as Numbered}
use Rattle.plc_declared.specs.declared.order.What.{What as Which}
use Rattle.plc_declared.specs.declared.order.What.TheVariants as which

-- the tree of this number, where the source has one
abbrev pub tree_of : Source → Which → Option What
tree_of u (which.Type k) = option_map AType (slice_get u.types k)
tree_of u (which.Pou k) = option_map (APou k) (slice_get u.pous k)
tree_of u which.Config = option_map AConfig (slice_get u.configs 0)

abbrev pub at_token : (token : ℕ) → What → Item
at_token token w = record { token = token; what = w }

abbrev pub seen : Source → Numbered → Option Item
seen u x = option_map (at_token x.token) (tree_of u x.what)

-- two lists merged by their tokens, as `merge` of the definition does with trees
abbrev pub merged_item : Numbered → (List Numbered → List Numbered) → List Numbered → List Numbered
merged_item x later [] = x ∷ later []
merged_item x later (y ∷ ys) = if nat_le x.token y.token then x ∷ later (y ∷ ys) else (y ∷ merged_item x later ys)

abbrev pub merged : List Numbered → List Numbered → List Numbered
merged [] ys = ys
merged (x ∷ xs) ys = merged_item x (merged xs) ys
