-- The grammar of sources (IEC 61131-3, Annex B.0), a production each: which tokens spell which tree, and the descent
-- that reads them. Where n stands, so many nodes may open in a body or an initial value.
use Rattle.std.specs.Prelude.{ℕ, List, [], ◌∷◌, ◌++◌}
use Rattle.plc_tree.specs.declared.tree.TypeDef.{TypeDef}
use Rattle.plc_tree.specs.declared.tree.Pou.{Pou}
use Rattle.plc_tree.specs.declared.tree.Config.{Config}
use Rattle.plc_tree.specs.declared.tree.Unit.{Unit as Source}
use Rattle.plc_tokens.specs.Sorts.{sort}
use Rattle.plc_tokens.specs.Sets.{END, TYPE, CONFIGURATION, DECLARATION}
use Rattle.phrase.specs.Piece.{Piece, pure, tok, ◌>>=◌, ◌>>◌, choose, many}
use Rattle.type_parse.specs.Types.{types}
use Rattle.decl_parse.specs.Units.{pou}
use Rattle.decl_parse.specs.Configurations.{config}

abbrev pub source_of : List TypeDef → List Pou → List Config → Source
source_of t p c = record { types = t; pous = p; configs = c }

abbrev pub nothing : Source
nothing = source_of [] [] []

-- a declaration after others: types, a configuration, or a function, a function block or a program
unfoldable pub next_types : ℕ → Source → Piece sort Source
next_types n u = do
  t ← types n u.types
  pure (source_of t u.pous u.configs)

unfoldable pub next_config : ℕ → Source → Piece sort Source
next_config n u = do
  c ← config n
  pure (source_of u.types u.pous (u.configs ++ c ∷ []))

unfoldable pub next_pou : ℕ → Source → Piece sort Source
next_pou n u = do
  p ← pou n
  pure (source_of u.types (u.pous ++ p ∷ []) u.configs)

unfoldable pub next_declaration : ℕ → Source → Piece sort Source
next_declaration n u = choose TYPE (next_types n u) (choose CONFIGURATION (next_config n u) (next_pou n u))

-- source = { types | function | block | program | config }
unfoldable pub source : ℕ → Piece sort Source
source n = many DECLARATION (next_declaration n) nothing

-- a source and the end
unfoldable pub closed : ℕ → Piece sort Source
closed n = do
  u ← source n
  tok END
  pure u
