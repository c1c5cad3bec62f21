-- The grammar of types (IEC 61131-3, Annex B.1.3), a production each: which tokens spell which tree, and the descent
-- that reads them. Where n stands, so many nodes may open in an initial value.
use Rattle.std.specs.Prelude.{ℕ, List, [], ◌∷◌, ◌++◌, Option, Some, None}
use Rattle.plc_tree.specs.declared.tree.Id.{Id}
use Rattle.plc_tree.specs.declared.tree.Whole.{Whole}
use Rattle.plc_tree.specs.declared.tree.Bounds.{Bounds}
use Rattle.plc_tree.specs.declared.tree.Spec.{Spec}
use Rattle.plc_tree.specs.declared.tree.Spec.TheVariants as in_spec
use Rattle.plc_tree.specs.declared.tree.Init.{Init}
use Rattle.plc_tree.specs.declared.tree.Member.{Member}
use Rattle.plc_tree.specs.declared.tree.TypeDef.{TypeDef}
use Rattle.plc_tree.specs.declared.tree.TypeWhat.{TypeWhat}
use Rattle.plc_tree.specs.declared.tree.TypeWhat.TheVariants as what
use Rattle.plc_tokens.specs.Sorts.{sort}
use Rattle.plc_tokens.specs.Sets.{NAME, ASSIGN, RANGE, LPAREN, RPAREN, LBRACKET, RBRACKET, COMMA, SEMI, COLON, OF, TYPE, END_TYPE, STRUCT, END_STRUCT, ARRAY, INTEGER_TYPE, OTHER_TYPE}
use Rattle.phrase.specs.Piece.{Piece, pure, tok, ◌>>=◌, ◌>>◌, choose, many}
use Rattle.st_expr.specs.Integers.{sint}
use Rattle.type_parse.specs.Names.{id_of, name, names, tname}
use Rattle.type_parse.specs.Depth.{init_if_any}

-- ---- subranges and arrays

abbrev pub bounds_of : Whole → Whole → Bounds
bounds_of low high = record { low = low; high = high }

-- range = sint ".." sint
unfoldable pub bounds : Piece sort Bounds
bounds = do
  low ← sint
  tok RANGE
  high ← sint
  pure (bounds_of low high)

unfoldable pub third_bounds : Bounds → Bounds → Piece sort (List Bounds)
third_bounds a b = do
  tok COMMA
  c ← bounds
  pure (a ∷ b ∷ c ∷ [])

unfoldable pub third_if_any : Bounds → Bounds → Piece sort (List Bounds)
third_if_any a b = choose COMMA (third_bounds a b) (pure (a ∷ b ∷ []))

unfoldable pub second_bounds : Bounds → Piece sort (List Bounds)
second_bounds a = do
  tok COMMA
  b ← bounds
  third_if_any a b

unfoldable pub second_if_any : Bounds → Piece sort (List Bounds)
second_if_any a = choose COMMA (second_bounds a) (pure (a ∷ []))

-- range [ "," range [ "," range ] ]
unfoldable pub dimensions : Piece sort (List Bounds)
dimensions = do
  a ← bounds
  second_if_any a

-- ARRAY "[" range [ "," range [ "," range ] ] "]" OF tname
unfoldable pub array : Piece sort Spec
array = do
  t ← tok ARRAY
  b ← tok LBRACKET
  l ← dimensions
  tok RBRACKET
  tok OF
  e ← tname
  pure (in_spec.Array l e t.place b.place)

-- behind a type of whole numbers: "(" range ")"
unfoldable pub limits : Id → Piece sort Spec
limits base = do
  tok LPAREN
  b ← bounds
  tok RPAREN
  pure (in_spec.Sub base b)

unfoldable pub limits_if_any : Id → Piece sort Spec
limits_if_any base = choose LPAREN (limits base) (pure (in_spec.Named base))

-- inttype [ "(" range ")" ]
unfoldable pub integer_type : Piece sort Spec
integer_type = do
  t ← tok INTEGER_TYPE
  limits_if_any (id_of t)

-- another type's name
unfoldable pub other_type : Piece sort Spec
other_type = do
  t ← tok OTHER_TYPE
  pure (in_spec.Named (id_of t))

-- spec = tname | inttype "(" range ")" | ARRAY "[" range [ "," range [ "," range ] ] "]" OF tname
unfoldable pub spec : Piece sort Spec
spec = choose ARRAY array (choose INTEGER_TYPE integer_type other_type)

-- ---- enumerations

unfoldable pub default : Piece sort (Option Id)
default = do
  tok ASSIGN
  i ← name
  pure (Some i)

-- [ ":=" name ]
unfoldable pub default_if_any : Piece sort (Option Id)
default_if_any = choose ASSIGN default (pure None)

-- enum = "(" name { "," name } ")" [ ":=" name ]
unfoldable pub enumeration : Piece sort TypeWhat
enumeration = do
  tok LPAREN
  l ← names
  tok RPAREN
  i ← default_if_any
  pure (what.Enum l i)

-- ---- structures

abbrev pub member_of : Id → Spec → Option Init → Member
member_of n s i = record { name = n.name; at = n.at; spec = s; init = i }

-- field = name ":" spec [ ":=" init ] ";"
unfoldable pub field : ℕ → Piece sort Member
field n = do
  f ← name
  tok COLON
  s ← spec
  i ← init_if_any n
  tok SEMI
  pure (member_of f s i)

unfoldable pub next_field : ℕ → List Member → Piece sort (List Member)
next_field n l = do
  f ← field n
  pure (l ++ f ∷ [])

-- strct = STRUCT field { field } END_STRUCT
unfoldable pub structure : ℕ → Piece sort TypeWhat
structure n = do
  tok STRUCT
  f ← field n
  l ← many NAME (next_field n) (f ∷ [])
  tok END_STRUCT
  pure (what.Struct l)

-- ---- declarations of types

-- spec [ ":=" init ]
unfoldable pub renamed : ℕ → Piece sort TypeWhat
renamed n = do
  s ← spec
  i ← init_if_any n
  pure (what.Spec s i)

-- enum | strct | spec [ ":=" init ]
unfoldable pub meaning : ℕ → Piece sort TypeWhat
meaning n = choose LPAREN enumeration (choose STRUCT (structure n) (renamed n))

abbrev pub definition_of : Id → TypeWhat → TypeDef
definition_of n w = record { name = n.name; at = n.at; what = w }

-- tdef = name ":" ( enum | strct | spec [ ":=" init ] )
unfoldable pub definition : ℕ → Piece sort TypeDef
definition n = do
  i ← name
  tok COLON
  w ← meaning n
  pure (definition_of i w)

-- tdef ";", behind others
unfoldable pub next_definition : ℕ → List TypeDef → Piece sort (List TypeDef)
next_definition n l = do
  t ← definition n
  tok SEMI
  pure (l ++ t ∷ [])

-- types = TYPE tdef ";" { tdef ";" } END_TYPE, behind others
unfoldable pub types : ℕ → List TypeDef → Piece sort (List TypeDef)
types n l = do
  tok TYPE
  first ← next_definition n l
  all ← many NAME (next_definition n) first
  tok END_TYPE
  pure all
