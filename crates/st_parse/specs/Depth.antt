-- The statements by how many more nodes may open in them.
use Rattle.std.specs.Prelude.{ℕ, zero, suc, List}
use Rattle.plc_tree.specs.declared.tree.Stmt.{Stmt}
use Rattle.plc_tokens.specs.Sorts.{sort}
use Rattle.phrase.specs.Piece.{Piece, none, also}
use Rattle.st_expr.specs.Depth.{deep}
use Rattle.st_parse.specs.Nested.{Nested}
use Rattle.st_parse.specs.Statements.{stmts, one_stmt}

-- what may stand under a node where n nodes may open, that one included
unfoldable pub stmt_under : ℕ → Piece sort Stmt
stmt_under zero = none
stmt_under (suc n) = also (stmt_under n) (one_stmt n (record { inside = deep n; stmt = stmt_under n }))

abbrev pub nested : ℕ → Nested
nested n = record { inside = deep n; stmt = stmt_under n }

-- the statements with at most n nodes, one in another
abbrev pub Statements : ℕ → Piece sort (List Stmt)
Statements n = stmts (nested (suc n))
