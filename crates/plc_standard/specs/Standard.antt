-- The names of the standard functions and blocks (IEC 61131-3, 2.5).
use Rattle.std.specs.Prelude.{ℕ, Bool, false, ◌||◌, List, [], ◌∷◌, ◌++◌, codes, Option, if◌then◌else◌}
use Rattle.std.specs.List.{list_any, position_from}
use Rattle.std.specs.Str.{bytes_eq}
use Rattle.plc_standard.specs.Listed.{is_listed}

abbrev pub functions : List (List ℕ)
functions =
    codes "ADD" ∷ codes "SUB" ∷ codes "MUL" ∷ codes "DIV" ∷ codes "MOD" ∷ codes "AND" ∷ codes "OR" ∷ codes "XOR" ∷ codes "NOT"
    ∷ codes "EQ" ∷ codes "NE" ∷ codes "LT" ∷ codes "GT" ∷ codes "LE" ∷ codes "GE"
    ∷ codes "ABS" ∷ codes "MIN" ∷ codes "MAX" ∷ codes "LIMIT" ∷ codes "SEL" ∷ codes "MUX"
    ∷ codes "SHL" ∷ codes "SHR" ∷ codes "ROL" ∷ codes "ROR" ∷ codes "MOVE" ∷ codes "PLC_MOMENT" ∷ []

abbrev pub blocks : List (List ℕ)
blocks =
    codes "SR" ∷ codes "RS" ∷ codes "R_TRIG" ∷ codes "F_TRIG" ∷ codes "CTU" ∷ codes "CTD" ∷ codes "CTUD" ∷ codes "TON" ∷ codes "TOF" ∷ codes "TP" ∷ []

-- the types between which conversions stand
abbrev pub converted : List (List ℕ)
converted =
    codes "SINT" ∷ codes "INT" ∷ codes "DINT" ∷ codes "LINT" ∷ codes "USINT" ∷ codes "UINT" ∷ codes "UDINT" ∷ codes "ULINT"
    ∷ codes "BYTE" ∷ codes "WORD" ∷ codes "DWORD" ∷ codes "LWORD" ∷ codes "BOOL" ∷ []

abbrev pub conversion : List ℕ → List ℕ → List ℕ
conversion from to = from ++ (codes "_TO_" ++ to)

-- a conversion from this type to another one
abbrev pub converts_from : List ℕ → List ℕ → Bool
converts_from name from = list_any (λ to. if bytes_eq from to then false else bytes_eq name (conversion from to)) converted

abbrev pub is_conversion : List ℕ → Bool
is_conversion name = list_any (converts_from name) converted

-- a function, a conversion among them
unfoldable pub is_function : List ℕ → Bool
is_function name = is_listed functions name || is_conversion name

-- a block by its place in the list
unfoldable pub block_number : List ℕ → Option ℕ
block_number name = position_from (λ n. bytes_eq n name) 0 blocks

unfoldable pub is_block : List ℕ → Bool
is_block name = is_listed blocks name
