-- The grammar of initial values (IEC 61131-3, Annex B.1.3.3), a production each: which tokens spell which tree, and the
-- descent that reads them. A production stands where n more nodes may open, and d is what stands under one of them.
use Rattle.std.specs.Prelude.{ℕ, List, [], ◌∷◌, ◌++◌, Option, Some, None}
use Rattle.plc_tokens.specs.declared.token.Token.{Token}
use Rattle.plc_tree.specs.declared.tree.Init.{Init}
use Rattle.plc_tree.specs.declared.tree.Init.TheVariants as in_init
use Rattle.plc_tree.specs.declared.tree.Item.{Item}
use Rattle.plc_tree.specs.declared.tree.Item.TheVariants as in_item
use Rattle.plc_tree.specs.declared.tree.InitPart.{InitPart, roll-InitPart}
use Rattle.plc_tokens.specs.Sorts.{sort, name_of, number_of, truth_of, span_of}
use Rattle.plc_tokens.specs.Sets.{NAME, INTEGER, NUMBER, TRUTH, SPAN, ASSIGN, LPAREN, RPAREN, LBRACKET, RBRACKET, COMMA, MINUS, HASH, FIRST_INIT}
use Rattle.phrase.specs.Piece.{Piece, pure, tok, ◌>>=◌, ◌>>◌, choose, choose_two, many, opens}
use Rattle.st_expr.specs.Expressions.{want_of, negated}
use Rattle.st_expr.specs.Integers.{whole_of}
use Rattle.type_parse.specs.Names.{id_of}
use Rattle.type_parse.specs.Inner.{Inner}

-- ---- literals

-- an integer, with a type before it or none
unfoldable pub number : Piece sort Init
number = do
  t ← tok NUMBER
  pure (in_init.Number (number_of t.kind) (want_of t.kind) t.place)

-- "-" integer
unfoldable pub negative : Piece sort Init
negative = do
  t ← tok MINUS
  u ← tok INTEGER
  pure (in_init.Number (negated (number_of u.kind)) None t.place)

-- TRUE | FALSE
unfoldable pub truth : Piece sort Init
truth = do
  t ← tok TRUTH
  pure (in_init.Truth (truth_of t.kind) t.place)

-- duration
unfoldable pub span : Piece sort Init
span = do
  t ← tok SPAN
  pure (in_init.Span (span_of t.kind) t.place)

-- literal = sint | typed integer | duration | TRUE | FALSE
unfoldable pub literal : Piece sort Init
literal = choose MINUS negative (choose NUMBER number (choose TRUTH truth span))

-- ---- values of enumerations

abbrev pub owned_of : Token → Token → Init
owned_of t u = in_init.Value (name_of t.kind) (name_of u.kind) t.place u.place

unfoldable pub owned : Token → Piece sort Init
owned t = do
  tok HASH
  u ← tok NAME
  pure (owned_of t u)

-- behind a name: [ "#" name ]
unfoldable pub owned_or_alone : Token → Piece sort Init
owned_or_alone t = choose HASH (owned t) (pure (in_init.Named (id_of t)))

-- name | name "#" name
unfoldable pub value : Piece sort Init
value = do
  t ← tok NAME
  owned_or_alone t

-- ---- lists and structures

unfoldable pub next_item : Inner → List Item → Piece sort (List Item)
next_item d l = do
  tok COMMA
  x ← d.item
  pure (l ++ x ∷ [])

-- behind "[": elem { "," elem } "]"
unfoldable pub list_rest : Inner → Token → Piece sort Init
list_rest d t = do
  x ← d.item
  l ← many COMMA (next_item d) (x ∷ [])
  tok RBRACKET
  pure (in_init.List l t.place)

abbrev pub part_of : Token → Init → InitPart
part_of t i = roll-InitPart (record { name = name_of t.kind; at = t.place; init = i })

-- name ":=" init
unfoldable pub part : Inner → Piece sort InitPart
part d = do
  t ← tok NAME
  tok ASSIGN
  i ← d.init
  pure (part_of t i)

unfoldable pub next_part : Inner → List InitPart → Piece sort (List InitPart)
next_part d l = do
  tok COMMA
  p ← part d
  pure (l ++ p ∷ [])

-- behind "(": name ":=" init { "," name ":=" init } ")"
unfoldable pub struct_rest : Inner → Token → Piece sort Init
struct_rest d t = do
  p ← part d
  l ← many COMMA (next_part d) (p ∷ [])
  tok RPAREN
  pure (in_init.Struct l t.place)

-- init = literal | name | name "#" name | "[" elem { "," elem } "]" | "(" name ":=" init { "," name ":=" init } ")"
unfoldable pub init : ℕ → Inner → Piece sort Init
init n d =
    choose LBRACKET (opens n 0 LBRACKET (list_rest d))
    (choose LPAREN (opens n 0 LPAREN (struct_rest d))
    (choose NAME value literal))

-- ---- elements of lists

unfoldable pub some_init : Inner → Piece sort (Option Init)
some_init d = do
  i ← d.init
  pure (Some i)

-- [ init ]
unfoldable pub none_or_init : Inner → Piece sort (Option Init)
none_or_init d = choose FIRST_INIT (some_init d) (pure None)

-- behind an integer and "(": [ init ] ")"
unfoldable pub many_rest : Inner → Token → Token → Piece sort Item
many_rest d t u = do
  i ← none_or_init d
  tok RPAREN
  pure (in_item.Many (whole_of t) i)

-- behind an integer: "(" [ init ] ")"
unfoldable pub counted : ℕ → Inner → Token → Piece sort Item
counted n d t = opens n 0 LPAREN (many_rest d t)

unfoldable pub one_init : ℕ → Inner → Piece sort Item
one_init n d = do
  i ← init n d
  pure (in_item.One i)

-- elem = init | integer "(" [ init ] ")"
unfoldable pub item : ℕ → Inner → Piece sort Item
item n d = choose_two INTEGER LPAREN (tok INTEGER >>= counted n d) (one_init n d)
