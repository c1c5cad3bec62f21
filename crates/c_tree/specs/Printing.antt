-- What `print` writes.
use Rattle.std.specs.Prelude.{ℕ, zero, suc, Bool, true, false, nat_eq, List, [], ◌∷◌, map}
use Rattle.c_tree.specs.declared.text.CText.{CText}
use Rattle.c_tree.specs.declared.tree.CItem.{CItem}
use Rattle.c_tree.specs.declared.tree.CPart.{CPart}
use Rattle.c_tree.specs.declared.tree.CUnit.{CUnit}
use Rattle.c_tree.specs.Layout.{laid}
use Rattle.c_tree.specs.Spelling.{part_pieces}

-- the text of the items of a part, the first of a unit or a later one
abbrev pub printed_part : Bool → List CItem → List ℕ
printed_part first items = laid (part_pieces first items)

abbrev pub items_at : List CPart → ℕ → List CItem
items_at [] k = []
items_at (p ∷ parts) zero = p.items
items_at (p ∷ parts) (suc k) = items_at parts k

-- the text of a part, by its number from 0
abbrev pub printed : CUnit → ℕ → List ℕ
printed unit k = printed_part (nat_eq k 0) (items_at unit.parts k)

abbrev pub part_text : Bool → CPart → CText
part_text first p = record { name = p.name; bytes = printed_part first p.items }

abbrev pub part_texts : List CPart → List CText
part_texts [] = []
part_texts (p ∷ parts) = part_text true p ∷ map (part_text false) parts

-- the texts of all parts, in order
abbrev pub printed_unit : CUnit → List CText
printed_unit unit = part_texts unit.parts
