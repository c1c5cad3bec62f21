-- Names among declared ones, and names that no source declares.
use Rattle.std.specs.Prelude.{ℕ, Bool, ◌||◌, List}
use Rattle.std.specs.List.{list_any}
use Rattle.std.specs.Str.{bytes_eq}
use Rattle.plc_standard.specs.Files.{is_file}
use Rattle.plc_standard.specs.Standard.{is_function, is_block}

-- among names that were declared
abbrev pub is_one_of : List (List ℕ) → List ℕ → Bool
is_one_of names name = list_any (bytes_eq name) names

-- of a standard function or block, or of a file that every compile writes
unfoldable pub is_standard : List ℕ → Bool
is_standard name = is_function name || (is_block name || is_file name)
