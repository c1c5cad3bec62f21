-- The grammar of expressions (IEC 61131-3, Annex B.3.1), a production each: which tokens spell which tree, and the
-- descent that reads them. A production stands where n more nodes may open, and d is what stands under one of them.
use Rattle.std.specs.Prelude.{ℕ, zero, suc, ◌+◌, max, Bool, true, false, ℤ, pos, negsuc, neg_ℤ, List, [], ◌∷◌, ◌++◌, Option, None}
use Rattle.plc_base.specs.declared.elem.Elem.{Elem}
use Rattle.plc_base.specs.declared.kind.Kind.{Kind}
use Rattle.plc_base.specs.declared.kind.Kind.TheVariants as kind
use Rattle.plc_tokens.specs.declared.token.Token.{Token}
use Rattle.plc_tree.specs.declared.tree.BinOp.{BinOp}
use Rattle.plc_tree.specs.declared.tree.BinOp.TheVariants as op
use Rattle.plc_tree.specs.declared.tree.UnOp.{UnOp}
use Rattle.plc_tree.specs.declared.tree.UnOp.TheVariants as sign
use Rattle.plc_tree.specs.declared.tree.Expr.{Expr}
use Rattle.plc_tree.specs.declared.tree.Expr.TheVariants as e
use Rattle.plc_tree.specs.declared.tree.Path.{Path, roll-Path}
use Rattle.plc_tree.specs.declared.tree.Part.{Part}
use Rattle.plc_tree.specs.declared.tree.Part.TheVariants as in_part
use Rattle.plc_tree.specs.declared.tree.Arg.{Arg}
use Rattle.plc_tree.specs.declared.tree.Arg.TheVariants as in_arg
use Rattle.plc_tokens.specs.Sorts.{sort_in, sort, name_of, number_of, truth_of, span_of}
use Rattle.plc_tokens.specs.Sets.{NAME, INTEGER, TYPED, TRUTH, SPAN, ASSIGN, ARROW, LPAREN, RPAREN, LBRACKET, RBRACKET, COMMA, DOT, HASH, MINUS, NOT, OR, XOR, AND, EQUALITY, COMPARISON, SIGN, PRODUCT, OPERATION, PARTS, FIRST_EXPR, FIRST_MINUS, FIRST_NUMBER, FIRST_TRUTH, FIRST_SPAN, FIRST_NAME}
use Rattle.phrase.specs.Piece.{Piece, pure, tok, ◌>>=◌, ◌>>◌, choose, choose_two, choose_three, many, opens, opens_two, seen}
use Rattle.st_expr.specs.declared.level.Level.{Level}
use Rattle.st_expr.specs.declared.level.Level.TheVariants as at
use Rattle.st_expr.specs.Nested.{Tall, Deep}
use Rattle.plc_tokens.specs.declared.reserved.Reserved.TheVariants as word
use Rattle.plc_tokens.specs.declared.sort.Seen.{Seen}
use Rattle.plc_tokens.specs.declared.sort.Sort.{Sort}
use Rattle.plc_tokens.specs.declared.sort.Symbol.TheVariants as symbol
use Rattle.plc_tokens.specs.declared.sort.Sort.TheVariants.{Symbol, Word}

-- ---- literals. The first token is of the sorts ks, so that it may be one that stands first on its line

-- the type before `#`
abbrev pub want_of : Kind → Option Elem
want_of (kind.Number value want) = want
want_of _ = None

-- an integer, with a type before it or none
unfoldable pub number : List Seen → (line : Bool) → Piece (sort_in line) (Tall Expr)
number ks line = do
  t ← tok ks
  pure (e.Number (number_of t.kind) (want_of t.kind) t.place, 0)

-- TRUE | FALSE
unfoldable pub truth : List Seen → (line : Bool) → Piece (sort_in line) (Tall Expr)
truth ks line = do
  t ← tok ks
  pure (e.Truth (truth_of t.kind) t.place, 0)

-- duration
unfoldable pub span : List Seen → (line : Bool) → Piece (sort_in line) (Tall Expr)
span ks line = do
  t ← tok ks
  pure (e.Span (span_of t.kind) t.place, 0)

-- the number of "-" and an integer, which is 0 or more where no type stands before it
abbrev pub negated : ℤ → ℤ
negated (pos n) = neg_ℤ (pos n)
negated (negsuc n) = pos 0

unfoldable pub negative_rest : (line : Bool) → Token → Piece (sort_in line) (Tall Expr)
negative_rest line t = do
  u ← tok INTEGER
  pure (e.Number (negated (number_of u.kind)) None t.place, 0)

-- "-" integer, one literal
unfoldable pub negative : List Seen → (line : Bool) → Piece (sort_in line) (Tall Expr)
negative ks line = do
  t ← tok ks
  negative_rest line t

-- ---- paths

abbrev pub add_expr : Tall (List Expr) → Tall Expr → Tall (List Expr)
add_expr l x = (l.0 ++ x.0 ∷ [], max l.1 x.1)

unfoldable pub next_expr : (line : Bool) → Deep → Tall (List Expr) → Piece (sort_in line) (Tall (List Expr))
next_expr line d l = do
  tok COMMA
  x ← d.operand at.Whole line
  pure (add_expr l x)

-- expr { "," expr }
unfoldable pub exprs : (line : Bool) → Deep → Piece (sort_in line) (Tall (List Expr))
exprs line d = do
  x ← d.operand at.Whole line
  many COMMA (next_expr line d) (add_expr ([], 0) x)

abbrev pub index_of : Tall (List Part) → Token → Tall (List Expr) → Tall (List Part)
index_of p t l = (p.0 ++ in_part.Index l.0 t.place ∷ [], max p.1 (l.1 + 1))

unfoldable pub index_rest : (line : Bool) → Deep → Tall (List Part) → Token → Piece (sort_in line) (Tall (List Part))
index_rest line d p t = do
  l ← exprs line d
  tok RBRACKET
  pure (index_of p t l)

abbrev pub field_of : Tall (List Part) → Token → Token → Tall (List Part)
field_of p d t = (p.0 ++ in_part.Field (name_of t.kind) t.place d.place ∷ [], p.1)

-- "." name
unfoldable pub field : (line : Bool) → Tall (List Part) → Piece (sort_in line) (Tall (List Part))
field line p = do
  d ← tok DOT
  t ← tok NAME
  pure (field_of p d t)

-- "." name | "[" expr { "," expr } "]"
unfoldable pub part : (line : Bool) → ℕ → Deep → Tall (List Part) → Piece (sort_in line) (Tall (List Part))
part line n d p = choose LBRACKET (opens n 0 LBRACKET (index_rest line d p)) (field line p)

abbrev pub path_of : Token → Tall (List Part) → Tall Path
path_of t p = (roll-Path (record { first = name_of t.kind; at = t.place; parts = p.0 }), p.1)

-- path = name { "." name | "[" expr { "," expr } "]" }
unfoldable pub path : List Seen → (line : Bool) → ℕ → Deep → Piece (sort_in line) (Tall Path)
path ks line n d = do
  t ← tok ks
  p ← many PARTS (part line n d) ([], 0)
  pure (path_of t p)

-- ---- arguments, in which line breaks have no meaning

abbrev pub add_arg : Tall (List Arg) → Tall Arg → Tall (List Arg)
add_arg l x = (l.0 ++ x.0 ∷ [], max l.1 x.1)

abbrev pub as_plain : Tall Expr → Tall Arg
as_plain x = (in_arg.Plain x.0, x.1)

-- expr
unfoldable pub plain : Deep → Piece sort (Tall Arg)
plain d = do
  x ← d.operand at.Whole false
  pure (as_plain x)

abbrev pub as_named : Token → Tall Expr → Tall Arg
as_named t x = (in_arg.Named (name_of t.kind) t.place x.0, x.1)

unfoldable pub named_rest : Deep → Token → Piece sort (Tall Arg)
named_rest d t = do
  tok ASSIGN
  x ← d.operand at.Whole false
  pure (as_named t x)

-- name ":=" expr
unfoldable pub named : Deep → Piece sort (Tall Arg)
named d = do
  t ← tok NAME
  named_rest d t

abbrev pub as_out : Bool → Token → Tall Path → Tall Arg
as_out negate t p = (in_arg.Out negate (name_of t.kind) t.place p.0, p.1)

unfoldable pub out_rest : Deep → Bool → Token → Piece sort (Tall Arg)
out_rest d negate t = do
  tok ARROW
  p ← d.path
  pure (as_out negate t p)

-- name "=>" path
unfoldable pub out : Deep → Piece sort (Tall Arg)
out d = do
  t ← tok NAME
  out_rest d false t

-- NOT name "=>" path
unfoldable pub not_out : Deep → Piece sort (Tall Arg)
not_out d = do
  tok NOT
  t ← tok NAME
  out_rest d true t

unfoldable pub named_or_plain : Deep → Piece sort (Tall Arg)
named_or_plain d = choose_two NAME ASSIGN (named d) (plain d)

unfoldable pub out_or_in : Deep → Piece sort (Tall Arg)
out_or_in d = choose_two NAME ARROW (out d) (named_or_plain d)

-- arg = expr | name ":=" expr | [ NOT ] name "=>" path
unfoldable pub arg : Deep → Piece sort (Tall Arg)
arg d = choose_three NOT NAME ARROW (not_out d) (out_or_in d)

unfoldable pub next_arg : Deep → Tall (List Arg) → Piece sort (Tall (List Arg))
next_arg d l = do
  tok COMMA
  x ← arg d
  pure (add_arg l x)

-- args = arg { "," arg }
unfoldable pub args : Deep → Piece sort (Tall (List Arg))
args d = do
  x ← arg d
  many COMMA (next_arg d) (add_arg ([], 0) x)

-- [ args ]
unfoldable pub args_if_any : Deep → Piece sort (Tall (List Arg))
args_if_any d = choose FIRST_EXPR (args d) (pure ([], 0))

-- what follows the name of a call and "("
unfoldable pub call_rest : (line : Bool) → Deep → Piece (sort_in line) (Tall (List Arg))
call_rest line d = do
  l ← seen (args_if_any d)
  tok RPAREN
  pure (l.0, l.1 + 1)

-- ---- operands

abbrev pub call_of : Token → Tall (List Arg) → Tall Expr
call_of t l = (e.Call (name_of t.kind) t.place l.0, l.1)

unfoldable pub call : (line : Bool) → Deep → Token → Piece (sort_in line) (Tall Expr)
call line d t = do
  l ← call_rest line d
  pure (call_of t l)

abbrev pub paren_of : Token → Tall Expr → Tall Expr
paren_of t x = (e.Paren t.place x.0, x.1 + 1)

unfoldable pub paren_rest : (line : Bool) → Deep → Token → Piece (sort_in line) (Tall Expr)
paren_rest line d t = do
  x ← d.operand at.Whole line
  tok RPAREN
  pure (paren_of t x)

abbrev pub value_of : Token → Token → Tall Expr
value_of t u = (e.Value (name_of t.kind) (name_of u.kind) t.place u.place, 0)

unfoldable pub value_rest : (line : Bool) → Token → Piece (sort_in line) (Tall Expr)
value_rest line t = do
  tok HASH
  u ← tok NAME
  pure (value_of t u)

-- name "#" name
unfoldable pub value : List Seen → (line : Bool) → Piece (sort_in line) (Tall Expr)
value ks line = do
  t ← tok ks
  value_rest line t

unfoldable pub variable : List Seen → (line : Bool) → ℕ → Deep → Piece (sort_in line) (Tall Expr)
variable ks line n d = do
  p ← path ks line n d
  pure (e.Var p.0, p.1)

-- path | name "#" name
unfoldable pub named_operand : List Seen → (line : Bool) → ℕ → Deep → Piece (sort_in line) (Tall Expr)
named_operand ks line n d = choose_two ks HASH (value ks line) (variable ks line n d)

-- path | name "#" name | name "(" [ args ] ")"
unfoldable pub called_or_named : (line : Bool) → ℕ → Deep → Piece (sort_in line) (Tall Expr)
called_or_named line n d = choose_two NAME LPAREN (opens_two n 0 NAME LPAREN (call line d)) (named_operand NAME line n d)

-- a primary that is no integer without a type before it
unfoldable pub other : (line : Bool) → ℕ → Deep → Piece (sort_in line) (Tall Expr)
other line n d =
    choose TYPED (number TYPED line)
    (choose TRUTH (truth TRUTH line)
    (choose SPAN (span SPAN line)
    (choose LPAREN (opens n 0 LPAREN (paren_rest line d))
    (choose OPERATION (opens_two n 0 OPERATION LPAREN (call line d))
    (called_or_named line n d)))))

-- primary = literal without sign | path | name "#" name | ( name | AND | OR | XOR | MOD ) "(" [ args ] ")" | "(" expr ")"
unfoldable pub primary : (line : Bool) → ℕ → Deep → Piece (sort_in line) (Tall Expr)
primary line n d = choose INTEGER (number INTEGER line) (other line n d)

-- operand of an instruction = literal | path | name "#" name; the first token may stand first on its line
unfoldable pub operand : (line : Bool) → ℕ → Deep → Piece (sort_in line) (Tall Expr)
operand line n d =
    choose FIRST_MINUS (negative FIRST_MINUS line)
    (choose FIRST_NUMBER (number FIRST_NUMBER line)
    (choose FIRST_TRUTH (truth FIRST_TRUTH line)
    (choose FIRST_SPAN (span FIRST_SPAN line)
    (named_operand FIRST_NAME line n d))))

-- ---- operators

-- what a sign stands before; "-" and an integer would be one literal
abbrev pub under_sign : UnOp → Level
under_sign sign.Minus = at.Other
under_sign sign.Not = at.Primary

abbrev pub signed_of : UnOp → Token → Tall Expr → Tall Expr
signed_of op t x = (e.Unary op t.place x.0, x.1 + 1)

-- behind "-" or NOT
unfoldable pub signed : UnOp → (line : Bool) → Deep → Token → Piece (sort_in line) (Tall Expr)
signed op line d t = do
  x ← d.operand (under_sign op) line
  pure (signed_of op t x)

-- unary = [ "-" | NOT ] primary, where "-" and an integer are one literal
unfoldable pub unary : (line : Bool) → ℕ → Deep → Piece (sort_in line) (Tall Expr)
unary line n d = choose_two MINUS INTEGER (negative MINUS line)
    (choose MINUS (opens n 0 MINUS (signed sign.Minus line d))
    (choose NOT (opens n 0 NOT (signed sign.Not line d)) (primary line n d)))

-- the operator that a sort stands for
abbrev pub op_of : Sort → BinOp
op_of (Word word.Or) = op.Or
op_of (Word word.Xor) = op.Xor
op_of (Symbol symbol.Equal) = op.Eq
op_of (Symbol symbol.Unequal) = op.Ne
op_of (Symbol symbol.Below) = op.Lt
op_of (Symbol symbol.Above) = op.Gt
op_of (Symbol symbol.AtMost) = op.Le
op_of (Symbol symbol.AtLeast) = op.Ge
op_of (Symbol symbol.Plus) = op.Add
op_of (Symbol symbol.Minus) = op.Sub
op_of (Symbol symbol.Times) = op.Mul
op_of (Symbol symbol.Divided) = op.Div
op_of (Word word.Mod) = op.Rem
op_of _ = op.And

abbrev pub binary_of : Tall Expr → Token → Tall Expr → Tall Expr
binary_of l t r = (e.Binary (op_of t.sort) t.place l.0 r.0, max l.1 r.1 + 1)

-- The levels of operators, from those that bind least. Each is of one form: side { operator side }, grouped from the
-- left, where the sides are of the level below.
--   expr = xor { OR xor }
--   xor = and { XOR and }
--   and = eq { ( "&" | AND ) eq }
--   eq = cmp { ( "=" | "<>" ) cmp }
--   cmp = sum { ( "<" | ">" | "<=" | ">=" ) sum }
--   sum = term { ( "+" | "-" ) term }
--   term = unary { ( "*" | "/" | MOD ) unary }

-- the operators of a level
abbrev pub joining : Level → List Seen
joining at.Whole = OR
joining at.Xor = XOR
joining at.And = AND
joining at.Equality = EQUALITY
joining at.Comparison = COMPARISON
joining at.Sum = SIGN
joining at.Term = PRODUCT
joining at.Unary = []
joining at.Primary = []
joining at.Other = []

-- the level of their sides
abbrev pub side_of : Level → Level
side_of at.Whole = at.Xor
side_of at.Xor = at.And
side_of at.And = at.Equality
side_of at.Equality = at.Comparison
side_of at.Comparison = at.Sum
side_of at.Sum = at.Term
side_of at.Term = at.Unary
side_of at.Unary = at.Unary
side_of at.Primary = at.Primary
side_of at.Other = at.Other

-- how many levels of operators stand in a level
abbrev pub levels_in : Level → ℕ
levels_in at.Whole = 7
levels_in at.Xor = 6
levels_in at.And = 5
levels_in at.Equality = 4
levels_in at.Comparison = 3
levels_in at.Sum = 2
levels_in at.Term = 1
levels_in at.Unary = 0
levels_in at.Primary = 0
levels_in at.Other = 0

unfoldable pub side_rest : Level → (line : Bool) → Deep → Tall Expr → Token → Piece (sort_in line) (Tall Expr)
side_rest level line d l t = do
  r ← d.operand (side_of level) line
  pure (binary_of l t r)

-- an operator opens a node above its first operand, which was read before
unfoldable pub next_side : Level → (line : Bool) → ℕ → Deep → Tall Expr → Piece (sort_in line) (Tall Expr)
next_side level line n d l = opens n l.1 (joining level) (side_rest level line d l)

-- what stands between operators that bind most
abbrev pub innermost : Level → (line : Bool) → ℕ → Deep → Piece (sort_in line) (Tall Expr)
innermost at.Other line n d = other line n d
innermost at.Primary line n d = primary line n d
innermost _ line n d = unary line n d

-- a level with so many levels of operators
unfoldable pub layered : ℕ → Level → (line : Bool) → ℕ → Deep → Piece (sort_in line) (Tall Expr)
layered zero level line n d = innermost level line n d
layered (suc k) level line n d = do
  l ← layered k (side_of level) line n d
  many (joining level) (next_side level line n d) l

-- what stands at a level
abbrev pub standing : Level → (line : Bool) → ℕ → Deep → Piece (sort_in line) (Tall Expr)
standing level line n d = layered (levels_in level) level line n d

abbrev pub expr : (line : Bool) → ℕ → Deep → Piece (sort_in line) (Tall Expr)
expr line n d = standing at.Whole line n d
