-- Tokens for phrases that the checker reads: kinds of tokens, and lists of tokens on one line.
use Rattle.std.specs.Prelude.{⊤, ℕ, ◌+◌, false, true, List, [], ◌∷◌, pos, Some, None, codes}
use Rattle.plc_base.specs.declared.elem.Elem.TheVariants.{Int}
use Rattle.plc_base.specs.declared.kind.Kind.{Kind}
use Rattle.plc_base.specs.declared.kind.Kind.TheVariants.{Word, Number, Truth, Span, Symbol}
use Rattle.plc_tokens.specs.declared.token.Token.{Token}
use Rattle.plc_base.specs.declared.refusal.Place.{Place}
use Rattle.plc_tree.specs.declared.tree.Expr.{Expr}
use Rattle.plc_tree.specs.declared.tree.Expr.TheVariants as e
use Rattle.plc_tree.specs.declared.tree.Path.{Path, roll-Path}
use Rattle.plc_tokens.specs.Sorts.{reserved_word, left_word, sort_of, name_of}
use Rattle.st_expr.specs.Expressions.{number, truth, span, negative, negative_rest, next_expr, exprs, index_rest, field, part, path, plain, named, named_rest, out, out_rest, not_out, named_or_plain, out_or_in, arg, next_arg, args, args_if_any, call_rest, call, paren_rest, value, value_rest, variable, named_operand, called_or_named, other, primary, operand, signed, unary, side_rest, next_side, layered}
use Rattle.st_expr.specs.Integers.{whole, minus_whole, sint}
use Rattle.st_expr.specs.Depth.{deep}

-- what an answer unfolds to compute the descent of an expression
unfoldable pub expressions_on_tokens : ⊤
unfolding reserved_word left_word deep whole minus_whole sint number truth span negative negative_rest next_expr exprs index_rest field part path plain named named_rest out out_rest not_out named_or_plain out_or_in arg next_arg args args_if_any call_rest call paren_rest value value_rest variable named_operand called_or_named other primary operand signed unary side_rest next_side layered
expressions_on_tokens = tt

-- ---- tokens by their number on the line

abbrev pub here : ℕ → Place
here n = record { file = 0; line = 1; col = n + 1; token = n }

abbrev pub nth : ℕ → Kind → Token
nth n k = record { kind = k; sort = sort_of k; place = here n; last = (1, n + 1); fresh = false }

-- the same with a line break before
abbrev pub fresh : ℕ → Kind → Token
fresh n k = record { kind = k; sort = sort_of k; place = here n; last = (1, n + 1); fresh = true }

-- these kinds, the first of this number
abbrev pub from : ℕ → List Kind → List Token
from n [] = []
from n (k ∷ ks) = nth n k ∷ from (n + 1) ks

-- ---- trees of one token

abbrev pub var_path : Kind → ℕ → Path
var_path k n = roll-Path (record { first = name_of k; at = here n; parts = [] })

abbrev pub var : Kind → ℕ → Expr
var k n = e.Var (var_path k n)

abbrev pub int : ℕ → ℕ → Expr
int value n = e.Number (pos value) None (here n)

-- ---- names

abbrev pub A : Kind
A = Word (codes "A")

abbrev pub B : Kind
B = Word (codes "B")

abbrev pub C : Kind
C = Word (codes "C")

abbrev pub F : Kind
F = Word (codes "F")

-- ---- literals

-- 1
abbrev pub one : Kind
one = Number (pos 1) None

-- 2
abbrev pub two : Kind
two = Number (pos 2) None

-- 5
abbrev pub five : Kind
five = Number (pos 5) None

-- INT#5
abbrev pub int_five : Kind
int_five = Number (pos 5) (Some Int)

-- TRUE
abbrev pub yes : Kind
yes = Truth true

-- T#3ns
abbrev pub time : Kind
time = Span (pos 3)

-- ---- symbols

-- :=
abbrev pub assign : Kind
assign = Symbol 0

-- =>
abbrev pub arrow : Kind
arrow = Symbol 1

-- <>
abbrev pub unequal : Kind
unequal = Symbol 2

-- <=
abbrev pub at_most : Kind
at_most = Symbol 3

-- >=
abbrev pub at_least : Kind
at_least = Symbol 4

-- ..
abbrev pub range : Kind
range = Symbol 5

-- (
abbrev pub lparen : Kind
lparen = Symbol 6

-- )
abbrev pub rparen : Kind
rparen = Symbol 7

-- [
abbrev pub lbracket : Kind
lbracket = Symbol 8

-- ]
abbrev pub rbracket : Kind
rbracket = Symbol 9

-- ,
abbrev pub comma : Kind
comma = Symbol 10

-- ;
abbrev pub semi : Kind
semi = Symbol 11

-- :
abbrev pub colon : Kind
colon = Symbol 12

-- .
abbrev pub dot : Kind
dot = Symbol 13

-- +
abbrev pub plus : Kind
plus = Symbol 14

-- -
abbrev pub minus : Kind
minus = Symbol 15

-- *
abbrev pub star : Kind
star = Symbol 16

-- /
abbrev pub slash : Kind
slash = Symbol 17

-- &
abbrev pub amp : Kind
amp = Symbol 18

-- =
abbrev pub equal : Kind
equal = Symbol 19

-- <
abbrev pub less : Kind
less = Symbol 20

-- >
abbrev pub greater : Kind
greater = Symbol 21

-- #
abbrev pub hash : Kind
hash = Symbol 22

-- ---- reserved words

abbrev pub NOT : Kind
NOT = Word (codes "NOT")

abbrev pub AND : Kind
AND = Word (codes "AND")

abbrev pub OR : Kind
OR = Word (codes "OR")

abbrev pub XOR : Kind
XOR = Word (codes "XOR")

abbrev pub MOD : Kind
MOD = Word (codes "MOD")
