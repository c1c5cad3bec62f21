-- Words (IEC 61131-3, 2.1.2): runs of letters, digits and underscores, and what they spell.
use Rattle.std.specs.Prelude.{ℕ, Bool, true, false, not, ◌&&◌, ◌||◌, ◌==◌, nat_lt, List, [], ◌∷◌, length, map, get_or, codes, bytes_eq, if◌then◌else◌}
use Rattle.std.specs.Char.{is_ascii_alphanumeric, is_ascii_digit, to_ascii_uppercase}
use Rattle.std.specs.List.{list_any, list_all}
use Rattle.std.specs.Str.{str_eq_ignore_ascii_case}
use Rattle.plc_base.specs.declared.kind.Kind.{Kind}
use Rattle.plc_base.specs.declared.kind.Kind.TheVariants.{Word, Truth, Left, Bad}
use Rattle.plc_base.specs.declared.refusal.Rule.TheVariants.{L1, L5}
use Rattle.plc_spelling.specs.Text.{is_nil}

-- a letter, a digit or an underscore
abbrev pub is_word_byte : ℕ → Bool
is_word_byte b = is_ascii_alphanumeric b || (b == 95)

-- some such bytes, the first of which is no digit
abbrev pub is_run : List ℕ → Bool
is_run bs = not (is_nil bs) && not (is_ascii_digit (get_or bs 0 0)) && list_all is_word_byte bs

-- an underscore or nothing follows
abbrev pub stops : List ℕ → Bool
stops [] = true
stops (b ∷ bs) = b == 95

-- no underscore stands beside another or at the end
abbrev pub underscores_alone : List ℕ → Bool
underscores_alone [] = true
underscores_alone (b ∷ bs) = not ((b == 95) && stops bs) && underscores_alone bs

-- the words of what the profile leaves out
abbrev pub left_words : List (List ℕ)
left_words = codes "REAL" ∷ codes "LREAL" ∷ codes "STRING" ∷ codes "WSTRING" ∷ codes "DATE" ∷ codes "TIME_OF_DAY" ∷ codes "TOD"
    ∷ codes "DATE_AND_TIME" ∷ codes "DT" ∷ codes "VOID" ∷ codes "EXPT" ∷ codes "REF_TO" ∷ codes "VAR_ACCESS" ∷ codes "VAR_CONFIG"
    ∷ codes "VAR_TEMP" ∷ codes "R_EDGE" ∷ codes "F_EDGE" ∷ codes "SINGLE" ∷ codes "RETAIN" ∷ codes "NON_RETAIN" ∷ []

-- one of them, in letters of either case
abbrev pub is_left : List ℕ → Bool
is_left name = list_any (λ word. str_eq_ignore_ascii_case word name) left_words

-- bytes in capitals
abbrev pub capitals : List ℕ → List ℕ
capitals bs = map to_ascii_uppercase bs

-- a word in capitals
abbrev pub named : List ℕ → Kind
named name =
    if bytes_eq name (codes "TRUE") then Truth true
    else (if bytes_eq name (codes "FALSE") then Truth false
    else (if is_left name then Left name
    else Word name))

-- what a run spells: a word of at most 64 bytes
abbrev pub run_kind : List ℕ → Kind
run_kind run =
    if not (underscores_alone run) then Bad L1
    else (if nat_lt 64 (length run) then Bad L5
    else named (capitals run))
