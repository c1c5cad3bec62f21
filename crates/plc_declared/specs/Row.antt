-- A row of declarations, and what an entry adds to it.
use Rattle.std.specs.Prelude.{ℕ, Bool, List, [], ◌∷◌, ◌++◌, length, Option, Some, None}
use Rattle.plc_tree.specs.declared.tree.Unit.{Unit as Source}
use Rattle.plc_names.specs.Items.{Item}
use Rattle.plc_names.specs.Declarations.{Entry, made_of, declared_of, item_entries}
use Rattle.plc_declared.specs.declared.row.Declared.{Declared}
use Rattle.plc_declared.specs.declared.order.Item.{Item as Numbered}
use Rattle.plc_declared.specs.Order.{seen}

unfoldable pub add : (own : Bool) → Declared → Entry → Declared
add own row x = record { names = row.names ++ declared_of own (length row.made) x; made = row.made ++ made_of x }

-- one entry after the other
abbrev pub added : (own : Bool) → Declared → List Entry → Declared
added own row [] = row
added own row (x ∷ xs) = added own (add own row x) xs

-- the entries of an item of the code
abbrev pub entries_of : (first config : ℕ) → Option Item → List Entry
entries_of first config None = []
entries_of first config (Some x) = item_entries first config x

abbrev pub numbered_entries : (first config : ℕ) → Source → Numbered → List Entry
numbered_entries first config u x = entries_of first config (seen u x)
