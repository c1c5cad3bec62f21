-- The declarations of a unit in text order: its types, its program organisation units, numbered from 0, and its configuration.
use Rattle.std.specs.Prelude.{ℕ, nat_le, List, [], ◌∷◌, map, take, if◌then◌else◌}
use Rattle.std.specs.List.{enumerate_from}
use Rattle.plc_tree.specs.declared.tree.Unit.{Unit as Source}
use Rattle.plc_tree.specs.declared.tree.TypeDef.{TypeDef}
use Rattle.plc_tree.specs.declared.tree.Pou.{Pou}
use Rattle.plc_tree.specs.declared.tree.Config.{Config}

pub data What : Type 0 where
  AType : TypeDef → What
  APou : ℕ → Pou → What
  AConfig : Config → What

-- a declaration, by the token of its name
pub record Item : Type 0 where
  pub token : ℕ
  pub what : What

abbrev pub type_item : TypeDef → Item
type_item t = record { token = t.at.token; what = AType t }

abbrev pub pou_item : ℕ × Pou → Item
pou_item (k, p) = record { token = p.at.token; what = APou k p }

abbrev pub config_item : Config → Item
config_item c = record { token = c.at.token; what = AConfig c }

-- two lists merged by their tokens: an item with a list, where `later` merges those behind it
abbrev pub merge_item : Item → (List Item → List Item) → List Item → List Item
merge_item x later [] = x ∷ later []
merge_item x later (y ∷ ys) = if nat_le x.token y.token then x ∷ later (y ∷ ys) else (y ∷ merge_item x later ys)

abbrev pub merge : List Item → List Item → List Item
merge [] ys = ys
merge (x ∷ xs) ys = merge_item x (merge xs) ys

-- a second configuration breaks a rule, and what stands in it is not looked at
abbrev pub first_config : Source → List Config
first_config u = take 1 u.configs

-- the types and program organisation units
abbrev pub own_items : Source → List Item
own_items u = merge (map type_item u.types) (map pou_item (enumerate_from 0 u.pous))

abbrev pub items : Source → List Item
items u = merge (own_items u) (map config_item (first_config u))
