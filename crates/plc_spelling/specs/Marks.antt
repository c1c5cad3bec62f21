-- Symbols, inclusions, and the marks of what the profile leaves out.
use Rattle.std.specs.Prelude.{ℕ, suc, Bool, ◌&&◌, ◌||◌, ◌==◌, not, List, [], ◌∷◌, drop, get_or, codes, bytes_eq, if◌then◌else◌}
use Rattle.std.specs.Char.{is_ascii_alphanumeric, is_ascii_digit}
use Rattle.std.specs.List.{list_any}
use Rattle.plc_base.specs.declared.kind.Kind.{Kind}
use Rattle.plc_base.specs.declared.kind.Kind.TheVariants.{Symbol, Include}
use Rattle.plc_spelling.specs.Text.{is_blank, is_nil, begins, begins_with, run_of, behind_run}

-- ---- symbols

-- all symbols; a symbol's number is its place
abbrev pub symbols : List (List ℕ)
symbols = codes ":=" ∷ codes "=>" ∷ codes "<>" ∷ codes "<=" ∷ codes ">=" ∷ codes ".." ∷ codes "(" ∷ codes ")" ∷ codes "[" ∷ codes "]" ∷ codes ","
    ∷ codes ";" ∷ codes ":" ∷ codes "." ∷ codes "+" ∷ codes "-" ∷ codes "*" ∷ codes "/" ∷ codes "&" ∷ codes "=" ∷ codes "<" ∷ codes ">" ∷ codes "#" ∷ []

abbrev pub is_symbol : List ℕ → Bool
is_symbol bs = list_any (λ symbol. bytes_eq symbol bs) symbols

-- the place of these bytes in a table, or its length
abbrev pub place_in : List (List ℕ) → List ℕ → ℕ
place_in [] bs = 0
place_in (row ∷ rows) bs = if bytes_eq row bs then 0 else suc (place_in rows bs)

abbrev pub symbol_kind : List ℕ → Kind
symbol_kind bs = Symbol (place_in symbols bs)

-- ---- inclusions

-- a byte of the name of a file
abbrev pub is_file_byte : ℕ → Bool
is_file_byte b = is_ascii_alphanumeric b || (b == 95) || (b == 45) || (b == 46)

-- what stands behind the word and the blanks
abbrev pub behind_word : List ℕ → List ℕ
behind_word bs = behind_run is_blank (drop 9 bs)

-- the name of the file
abbrev pub file_name : List ℕ → List ℕ
file_name bs = run_of is_file_byte (drop 1 (behind_word bs))

-- `{#include`, one blank or more, and in quotation marks a name that doesn't begin with a point, and `}`
abbrev pub is_inclusion : List ℕ → Bool
is_inclusion bs =
    begins (codes "{#include") bs
    && is_blank (get_or (drop 9 bs) 0 0)
    && begins_with 34 (behind_word bs)
    && not (is_nil (file_name bs)) && not (begins_with 46 (file_name bs))
    && bytes_eq (codes "\"}") (behind_run is_file_byte (drop 1 (behind_word bs)))

abbrev pub inclusion_kind : List ℕ → Kind
inclusion_kind bs = Include (file_name bs)

-- ---- what is left out

-- a power, a quotation mark of a string, the bracket of a pragma that is no inclusion
abbrev pub marks : List (List ℕ)
marks = codes "**" ∷ codes "'" ∷ codes "\"" ∷ codes "{" ∷ []

abbrev pub is_mark : List ℕ → Bool
is_mark bs = list_any (λ mark. bytes_eq mark bs) marks

-- a real: digits, a point and digits
abbrev pub is_real : List ℕ → Bool
is_real bs =
    not (is_nil (run_of is_ascii_digit bs))
    && begins_with 46 (behind_run is_ascii_digit bs)
    && not (is_nil (drop 1 (behind_run is_ascii_digit bs)))
    && is_nil (behind_run is_ascii_digit (drop 1 (behind_run is_ascii_digit bs)))
