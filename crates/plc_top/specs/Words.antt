-- The forms of a command line, and the words of a source.
use Rattle.std.specs.Prelude.{◌&&◌, ℕ, nat_eq, Bool, not, List, [], ◌∷◌, codes, Option, Some, None, if◌then◌else◌}
use Rattle.std.specs.List.{starts_with}
use Rattle.std.specs.Cmp.Lexicographic.{pointwise}
use Rattle.plc_tokens.specs.declared.token.Token.{Token}
use Rattle.plc_lex.specs.Names.{HasName}
use Rattle.plc_tokens.specs.Tokens.{IsSorted}

-- a word that names a file: it begins with no dash, and is no command
abbrev pub is_file : List ℕ → Bool
is_file word = not (starts_with nat_eq word (codes "-")) && not (pointwise nat_eq word (codes "run")) && not (pointwise nat_eq word (codes "sample"))

-- the file to compile: the only word
abbrev pub form : List (List ℕ) → Option (List ℕ)
form [] = None
form (word ∷ []) = if is_file word then Some word else None
form (word ∷ other ∷ more) = None

-- what is known of the tokens of a text
abbrev pub IsKnown : Token → Type 0
IsKnown t = HasName t.kind × IsSorted t
