-- Names where they stand (IEC 61131-3, Annex B.1.1).
use Rattle.std.specs.Prelude.{List, [], ◌∷◌, ◌++◌}
use Rattle.plc_tokens.specs.declared.token.Token.{Token}
use Rattle.plc_tree.specs.declared.tree.Id.{Id}
use Rattle.plc_tokens.specs.Sorts.{sort, name_of}
use Rattle.plc_tokens.specs.Sets.{NAME, COMMA, TYPE_NAME}
use Rattle.phrase.specs.Piece.{Piece, pure, tok, ◌>>=◌, ◌>>◌, many}

abbrev pub id_of : Token → Id
id_of t = record { name = name_of t.kind; at = t.place }

-- name: a word that is not reserved
unfoldable pub name : Piece sort Id
name = do
  t ← tok NAME
  pure (id_of t)

unfoldable pub next_name : List Id → Piece sort (List Id)
next_name l = do
  tok COMMA
  n ← name
  pure (l ++ n ∷ [])

-- behind a name: { "," name }
unfoldable pub more_names : Id → Piece sort (List Id)
more_names n = many COMMA next_name (n ∷ [])

-- name { "," name }
unfoldable pub names : Piece sort (List Id)
names = do
  n ← name
  more_names n

-- tname = name | elementary type
unfoldable pub tname : Piece sort Id
tname = do
  t ← tok TYPE_NAME
  pure (id_of t)
