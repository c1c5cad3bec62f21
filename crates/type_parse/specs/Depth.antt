-- The initial values by how many more nodes may open in them.
use Rattle.std.specs.Prelude.{ℕ, zero, suc, Option, Some, None}
use Rattle.plc_tree.specs.declared.tree.Init.{Init}
use Rattle.plc_tokens.specs.Sorts.{sort}
use Rattle.plc_tokens.specs.Sets.{ASSIGN}
use Rattle.phrase.specs.Piece.{Piece, pure, tok, ◌>>=◌, ◌>>◌, choose, none, also}
use Rattle.type_parse.specs.Inner.{Inner}
use Rattle.type_parse.specs.Initials.{init, item}

-- what may stand under a node where n nodes may open, that one included
unfoldable pub inner : ℕ → Inner
inner zero = record { init = none; item = none }
inner (suc n) = record {
  init = also (inner n).init (init n (inner n));
  item = also (inner n).item (item n (inner n));
}

-- the initial values with at most n nodes, one in another
abbrev pub Initials : ℕ → Piece sort Init
Initials n = init n (inner n)

unfoldable pub assigned : ℕ → Piece sort (Option Init)
assigned n = do
  tok ASSIGN
  i ← Initials n
  pure (Some i)

-- [ ":=" init ]
unfoldable pub init_if_any : ℕ → Piece sort (Option Init)
init_if_any n = choose ASSIGN (assigned n) (pure None)
