-- The items that the include line stands for: none yet.
use Rattle.std.specs.Prelude.{List, []}
use Rattle.c_tree.specs.declared.tree.CItem.{CItem}

abbrev pub library : List CItem
library = []
