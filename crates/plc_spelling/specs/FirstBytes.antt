-- Which forms of tokens can begin with a byte.
use Rattle.std.specs.Prelude.{ℕ, zero, suc, ◌+◌, ◌==◌, Bool, ◌&&◌, not, List, [], ◌∷◌, ◌++◌, get_or, filter, replicate}
use Rattle.std.specs.Char.{is_ascii_digit}
use Rattle.std.specs.List.{list_any}
use Rattle.plc_spelling.specs.Marks.{symbols, marks}
use Rattle.plc_spelling.specs.Spelling.{Form, forms}
use Rattle.plc_spelling.specs.Spelling.Form.{Run, Integer, Literal, Address, Symbol, Inclusion, Real, Mark}
use Rattle.plc_spelling.specs.Words.{is_word_byte}

-- a letter or an underscore
abbrev pub begins_word : ℕ → Bool
begins_word b = is_word_byte b && not (is_ascii_digit b)

-- a row of the table begins with the byte
abbrev pub begins_row : List (List ℕ) → ℕ → Bool
begins_row table b = list_any (λ row. get_or row 0 0 == b) table

abbrev pub may_begin : Form → ℕ → Bool
may_begin Run b = begins_word b
may_begin Integer b = is_ascii_digit b
may_begin Literal b = begins_word b
may_begin Address b = b == 37
may_begin Symbol b = begins_row symbols b
may_begin Inclusion b = b == 123
may_begin Real b = is_ascii_digit b
may_begin Mark b = begins_row marks b

-- ---- the table of all bytes

-- the forms that can begin with a byte
abbrev pub starting : ℕ → List Form
starting b = filter (λ form. may_begin form b) forms

-- n numbers, one after the other
abbrev pub counting : ℕ → ℕ → List ℕ
counting from zero = []
counting from (suc n) = from ∷ counting (from + 1) n

abbrev pub words : List Form
words = Run ∷ Literal ∷ []

abbrev pub digits : List Form
digits = Integer ∷ Real ∷ []

abbrev pub symbol : List Form
symbol = Symbol ∷ []

abbrev pub mark : List Form
mark = Mark ∷ []

-- for each byte from 0 to 255, by its place, the forms that can begin with it
abbrev pub by_byte : List (List Form)
by_byte =
    replicate 34 []
    -- from the quotation mark to the apostrophe
    ++ mark ∷ symbol ∷ [] ∷ (Address ∷ []) ∷ symbol ∷ mark ∷ []
    -- brackets, the star, and from the plus to the slash
    ++ symbol ∷ symbol ∷ (Symbol ∷ Mark ∷ []) ∷ []
    ++ replicate 5 symbol
    ++ replicate 10 digits
    -- from the colon to the greater-than sign
    ++ replicate 5 symbol
    ++ replicate 2 []
    ++ replicate 26 words
    -- square brackets, and the underscore
    ++ symbol ∷ [] ∷ symbol ∷ [] ∷ words ∷ [] ∷ []
    ++ replicate 26 words
    ++ (Inclusion ∷ Mark ∷ []) ∷ []
    ++ replicate 132 []
