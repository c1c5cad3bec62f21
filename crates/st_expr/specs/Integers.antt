-- Whole numbers with a sign or none (IEC 61131-3, Annex B.1.2.1).
use Rattle.plc_tokens.specs.declared.token.Token.{Token}
use Rattle.plc_tree.specs.declared.tree.Whole.{Whole}
use Rattle.plc_tokens.specs.Sorts.{sort, number_of}
use Rattle.plc_tokens.specs.Sets.{INTEGER, MINUS}
use Rattle.phrase.specs.Piece.{Piece, pure, tok, ◌>>=◌, choose}
use Rattle.st_expr.specs.Expressions.{negated}

abbrev pub whole_of : Token → Whole
whole_of t = record { value = number_of t.kind; at = t.place }

-- integer
unfoldable pub whole : Piece sort Whole
whole = do
  t ← tok INTEGER
  pure (whole_of t)

abbrev pub minus_whole_of : Token → Token → Whole
minus_whole_of t u = record { value = negated (number_of u.kind); at = t.place }

-- "-" integer
unfoldable pub minus_whole : Piece sort Whole
minus_whole = do
  t ← tok MINUS
  u ← tok INTEGER
  pure (minus_whole_of t u)

-- sint = [ "-" ] integer
unfoldable pub sint : Piece sort Whole
sint = choose MINUS minus_whole whole
