-- The tokens of the stated C, how they are spelled, and how a text is cut into them.
use Rattle.std.specs.Prelude.{ℕ, zero, suc, ◌-◌, ◌≤◌, Bool, true, false, ◌&&◌, ◌||◌, ◌==◌, nat_le, nat_lt, if◌then◌else◌, IsTrue, List, [], ◌∷◌, ◌++◌, length, drop, Option, Some, None, option_to_list, codes, decimal}
use Rattle.std.specs.Str.Parse.{digits_value}
use Rattle.c_tree.specs.declared.tree.CNum.{CNum}
use Rattle.c_tree.specs.declared.tree.CNum.TheVariants.{Int, LL, ULL}
use Rattle.c_tree.specs.declared.sign.Sign.{Sign}
use Rattle.c_tree.specs.declared.sign.Sign.TheVariants.{Arrow, ShiftLeft, ShiftRight, Equal, NotEqual, LessEqual, GreaterEqual, OpenBrace, CloseBrace, OpenParen, CloseParen, OpenBracket, CloseBracket, Semicolon, Colon, Comma, Dot, Assign, Plus, Minus, Star, Slash, Percent, Ampersand, Bar, Caret, Less, Greater, Bang, Tilde}

pub data CTok : Type 0 where
  -- the line that stands for the library
  Include : CTok
  Word : List ℕ → CTok
  Number : ℕ → CNum → CTok
  Mark : Sign → CTok
  -- digits with a leading zero, or of no number of the type of their suffix: they stand in no text
  Unfit : List ℕ → CTok
  -- a byte that begins no token
  Stray : ℕ → CTok

-- ---- how they are spelled

abbrev pub include_line : List ℕ
include_line = codes "#include \"iec_std_lib.h\"\n"

abbrev pub sign_text : Sign → List ℕ
sign_text Arrow = codes "->"
sign_text ShiftLeft = codes "<<"
sign_text ShiftRight = codes ">>"
sign_text Equal = codes "=="
sign_text NotEqual = codes "!="
sign_text LessEqual = codes "<="
sign_text GreaterEqual = codes ">="
sign_text OpenBrace = codes "{"
sign_text CloseBrace = codes "}"
sign_text OpenParen = codes "("
sign_text CloseParen = codes ")"
sign_text OpenBracket = codes "["
sign_text CloseBracket = codes "]"
sign_text Semicolon = codes ";"
sign_text Colon = codes ":"
sign_text Comma = codes ","
sign_text Dot = codes "."
sign_text Assign = codes "="
sign_text Plus = codes "+"
sign_text Minus = codes "-"
sign_text Star = codes "*"
sign_text Slash = codes "/"
sign_text Percent = codes "%"
sign_text Ampersand = codes "&"
sign_text Bar = codes "|"
sign_text Caret = codes "^"
sign_text Less = codes "<"
sign_text Greater = codes ">"
sign_text Bang = codes "!"
sign_text Tilde = codes "~"

abbrev pub suffix : CNum → List ℕ
suffix Int = []
suffix LL = codes "LL"
suffix ULL = codes "ULL"

-- the greatest number with a suffix
abbrev pub most : CNum → ℕ
most Int = 2147483647
most LL = 9223372036854775807
most ULL = 18446744073709551615

abbrev pub spelled : CTok → List ℕ
spelled Include = include_line
spelled (Word bytes) = bytes
spelled (Number value kind) = decimal value ++ suffix kind
spelled (Mark s) = sign_text s
spelled (Unfit bytes) = bytes
spelled (Stray b) = b ∷ []

-- ---- the kinds of bytes

abbrev pub is_digit : ℕ → Bool
is_digit b = nat_le 48 b && nat_le b 57

abbrev pub is_letter : ℕ → Bool
is_letter b = (nat_le 65 b && nat_le b 90) || (nat_le 97 b && nat_le b 122) || (b == 95)

abbrev pub is_word_byte : ℕ → Bool
is_word_byte b = is_letter b || is_digit b

abbrev pub is_blank : ℕ → Bool
is_blank b = (b == 32) || (b == 10)

pub data ByteKind : Type 0 where
  Blank : ByteKind
  Letter : ByteKind
  Digit : ByteKind
  Other : ByteKind

abbrev pub byte_kind : ℕ → ByteKind
byte_kind b = if is_blank b then Blank else if is_digit b then Digit else if is_letter b then Letter else Other

-- ---- the token at a place

-- the bytes from the front on that pass a test
abbrev pub run_of : (ℕ → Bool) → List ℕ → List ℕ
run_of test [] = []
run_of test (b ∷ rest) = if test b then b ∷ run_of test rest else []

abbrev pub begins : List ℕ → List ℕ → Bool
begins [] text = true
begins (x ∷ xs) [] = false
begins (x ∷ xs) (y ∷ ys) = (x == y) && begins xs ys

-- those of two bytes come first, so that the first that fits is the longest
abbrev pub all_signs : List Sign
all_signs =
    Arrow ∷ ShiftLeft ∷ ShiftRight ∷ Equal ∷ NotEqual ∷ LessEqual ∷ GreaterEqual
    ∷ OpenBrace ∷ CloseBrace ∷ OpenParen ∷ CloseParen ∷ OpenBracket ∷ CloseBracket ∷ Semicolon ∷ Colon ∷ Comma ∷ Dot
    ∷ Assign ∷ Plus ∷ Minus ∷ Star ∷ Slash ∷ Percent ∷ Ampersand ∷ Bar ∷ Caret ∷ Less ∷ Greater ∷ Bang ∷ Tilde ∷ []

abbrev pub sign_at : List Sign → List ℕ → Option Sign
sign_at [] text = None
sign_at (s ∷ signs) text = if begins (sign_text s) text then Some s else sign_at signs text

abbrev pub mark_at : Option Sign → ℕ → CTok
mark_at (Some s) b = Mark s
mark_at None b = Stray b

abbrev pub suffix_at : List ℕ → CNum
suffix_at text = if begins (suffix ULL) text then ULL else if begins (suffix LL) text then LL else Int

-- a zero with a digit behind it
abbrev pub leads_with_zero : List ℕ → Bool
leads_with_zero (d ∷ e ∷ rest) = d == 48
leads_with_zero digits = false

abbrev pub number_of : List ℕ → CNum → CTok
number_of digits kind =
    if leads_with_zero digits || nat_lt (most kind) (digits_value 10 digits) then Unfit (digits ++ suffix kind) else Number (digits_value 10 digits) kind

abbrev pub number_at : List ℕ → List ℕ → CTok
number_at digits text = number_of digits (suffix_at (drop (length digits) text))

-- the longest token that begins with this byte before this rest, none at a blank
abbrev pub token_of : ByteKind → ℕ → List ℕ → Option CTok
token_of Blank b rest = None
token_of Letter b rest = Some (Word (b ∷ run_of is_word_byte rest))
token_of Digit b rest = Some (number_at (b ∷ run_of is_digit rest) (b ∷ rest))
token_of Other b rest = Some (mark_at (sign_at all_signs (b ∷ rest)) b)

abbrev pub token_at : ℕ → List ℕ → Option CTok
token_at b rest = token_of (byte_kind b) b rest

-- ---- the tokens of a text

-- how many bytes more than its first a token takes
abbrev pub bytes_more : Option CTok → ℕ
bytes_more None = 0
bytes_more (Some t) = length (spelled t) - 1

-- the tokens of a text behind so many bytes that are passed over
abbrev pub cut_from : ℕ → List ℕ → List CTok
cut_from skip [] = []
cut_from zero (b ∷ rest) = option_to_list (token_at b rest) ++ cut_from (bytes_more (token_at b rest)) rest
cut_from (suc skip) (b ∷ rest) = cut_from skip rest

abbrev pub cut : List ℕ → List CTok
cut text = cut_from zero text

-- of the first text, at whose first byte alone the line of the library is a token
abbrev pub cut_first : List ℕ → List CTok
cut_first text = if begins include_line text then Include ∷ cut (drop (length include_line) text) else cut text

-- ---- what may be spelled

abbrev pub are_word_bytes : List ℕ → Bool
are_word_bytes [] = true
are_word_bytes (b ∷ rest) = is_word_byte b && are_word_bytes rest

abbrev pub is_name : List ℕ → Bool
is_name [] = false
is_name (b ∷ rest) = is_letter b && are_word_bytes rest

-- a letter or _, then letters, digits and _
abbrev pub IsName : List ℕ → Type 0
IsName bytes = IsTrue (is_name bytes)

-- a number is one of the type of its suffix
abbrev pub IsOfKind : ℕ → CNum → Type 0
IsOfKind value kind = value ≤ most kind
