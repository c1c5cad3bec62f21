-- The names of files that every compile writes.
use Rattle.std.specs.Prelude.{ℕ, Bool, List, [], ◌∷◌, codes}
use Rattle.plc_standard.specs.Listed.{is_listed}

abbrev pub files : List (List ℕ)
files = codes "POUS" ∷ codes "LOCATED_VARIABLES" ∷ []

unfoldable pub is_file : List ℕ → Bool
is_file name = is_listed files name
