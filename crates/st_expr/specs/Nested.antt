-- What stands under one more node of a tree, and the heights of trees.
use Rattle.std.specs.Prelude.{ℕ, Bool}
use Rattle.plc_tree.specs.declared.tree.Expr.{Expr}
use Rattle.plc_tree.specs.declared.tree.Path.{Path}
use Rattle.plc_tokens.specs.Sorts.{sort_in, sort}
use Rattle.phrase.specs.Piece.{Piece}
use Rattle.st_expr.specs.declared.level.Level.{Level}

-- a tree and its height: literals and plain names have 0, a node has one more than its highest part
abbrev pub Tall : Type 0 → Type 0
Tall A = A × ℕ

-- The phrases under one more node. Those of expressions and paths stand in two ways: with line breaks anywhere, or,
-- where line is true, with none before a token that stands in no arguments of a call.
pub record Deep : Type 1 where
  pub operand : Level → (line : Bool) → Piece (sort_in line) (Tall Expr)
  pub path : Piece sort (Tall Path)
