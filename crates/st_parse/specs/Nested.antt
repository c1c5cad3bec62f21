-- What stands under one more node of a body.
use Rattle.plc_tree.specs.declared.tree.Stmt.{Stmt}
use Rattle.plc_tokens.specs.Sorts.{sort}
use Rattle.phrase.specs.Piece.{Piece}
use Rattle.st_expr.specs.Nested.{Deep}

-- the expressions and paths under one more node, and the statements
pub record Nested : Type 1 where
  pub inside : Deep
  pub stmt : Piece sort Stmt
