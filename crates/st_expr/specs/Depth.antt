-- The phrases by how many more nodes may open in them.
use Rattle.std.specs.Prelude.{ℕ, zero, suc, Bool, false, List}
use Rattle.plc_tree.specs.declared.tree.Expr.{Expr}
use Rattle.plc_tree.specs.declared.tree.Path.{Path}
use Rattle.plc_tree.specs.declared.tree.Arg.{Arg}
use Rattle.plc_tokens.specs.Sorts.{sort_in, sort}
use Rattle.plc_tokens.specs.Sets.{NAME, FIRST_NAME}
use Rattle.phrase.specs.Piece.{Piece, none, also}
use Rattle.st_expr.specs.Nested.{Tall, Deep}
use Rattle.st_expr.specs.Expressions.{path, args, expr, operand, standing}

-- what may stand under a node where n nodes may open, that one included
unfoldable pub deep : ℕ → Deep
deep zero = record { operand = λ level line. none; path = none }
deep (suc n) = record {
  operand = λ level line. also ((deep n).operand level line) (standing level line n (deep n));
  path = also (deep n).path (path NAME false n (deep n));
}

-- the phrases with at most n nodes, one in another
abbrev pub Expressions : ℕ → Piece sort (Tall Expr)
Expressions n = expr false n (deep n)

abbrev pub Arguments : ℕ → Piece sort (Tall (List Arg))
Arguments n = args (deep (suc n))

abbrev pub Paths : (line : Bool) → ℕ → Piece (sort_in line) (Tall Path)
Paths line n = path FIRST_NAME line n (deep n)

abbrev pub Operands : (line : Bool) → ℕ → Piece (sort_in line) (Tall Expr)
Operands line n = operand line n (deep n)
