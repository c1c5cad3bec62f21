-- What stands under one more node of an initial value.
use Rattle.plc_tree.specs.declared.tree.Init.{Init}
use Rattle.plc_tree.specs.declared.tree.Item.{Item}
use Rattle.plc_tokens.specs.Sorts.{sort}
use Rattle.phrase.specs.Piece.{Piece}

-- the initial values under one more node, and the elements of a list
pub record Inner : Type 1 where
  pub init : Piece sort Init
  pub item : Piece sort Item
