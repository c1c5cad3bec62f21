-- Texts and their tokens, by computation.
use Rattle.std.proofs.Common.{◌≡◌, refl, ℕ, List, [], ◌∷◌, map, true, false}
use Rattle.std.specs.Prelude.{codes, pos, neg_ℤ, Some, None}
use Rattle.plc_base.specs.declared.elem.Elem.TheVariants as elem
use Rattle.plc_base.specs.declared.refusal.Rule.TheVariants.{L1, L2, L3, L4, L5}
use Rattle.plc_base.specs.declared.kind.Kind.{Kind}
use Rattle.plc_base.specs.declared.kind.Kind.TheVariants.{Word, Number, Truth, Span, Address, Symbol, Include, Left, End, Bad}
use Rattle.plc_spelling.specs.Spelling.{size, first_kind}
use Rattle.plc_tokens.specs.declared.sort.Sort.TheVariants as sorts
use Rattle.plc_tokens.specs.declared.sort.Symbol.TheVariants as symbol
use Rattle.plc_tokens.specs.Sorts.{sort_of}
use Rattle.plc_lex.specs.Comments.{comment}
use Rattle.plc_lex.specs.Tokens.{lexed, tokens_from}

-- the kinds of the tokens of a text
unfoldable kinds : List ℕ → List Kind
kinds text = map (λ t. t.kind) (lexed text 0 false)

-- the same where comments nest
unfoldable nested_kinds : List ℕ → List Kind
nested_kinds text = map (λ t. t.kind) (lexed text 0 true)

-- a word, an integer without a type
abbrev w : List ℕ → Kind
w name = Word name

abbrev n : ℕ → Kind
n value = Number (pos value) None

range : kinds (codes "1..2") ≡ n 1 ∷ Symbol 5 ∷ n 2 ∷ End ∷ []
unfolding kinds lexed tokens_from size comment
range = refl

real : kinds (codes "1.2") ≡ Left (codes "1.2") ∷ End ∷ []
unfolding kinds lexed tokens_from size comment
real = refl

grouped_real : kinds (codes "1_0.5") ≡ n 10 ∷ Symbol 13 ∷ n 5 ∷ End ∷ []
unfolding kinds lexed tokens_from size comment
grouped_real = refl

days_and_hours : kinds (codes "T#1d2h") ≡ Span (pos 93600000000000) ∷ End ∷ []
unfolding kinds lexed tokens_from size comment
days_and_hours = refl

part_of_an_hour : kinds (codes "t#1.5H") ≡ Span (pos 5400000000000) ∷ End ∷ []
unfolding kinds lexed tokens_from size comment
part_of_an_hour = refl

below_zero : kinds (codes "TIME#-5ms") ≡ Span (neg_ℤ (pos 5000000)) ∷ End ∷ []
unfolding kinds lexed tokens_from size comment
below_zero = refl

truncated : kinds (codes "T#-0.0000019ms") ≡ Span (neg_ℤ (pos 1)) ∷ End ∷ []
unfolding kinds lexed tokens_from size comment
truncated = refl

many_hours : kinds (codes "T#25h") ≡ Span (pos 90000000000000) ∷ End ∷ []
unfolding kinds lexed tokens_from size comment
many_hours = refl

hours_behind_a_day : kinds (codes "T#1d_25h") ≡ Bad L3 ∷ []
unfolding kinds lexed tokens_from size comment
hours_behind_a_day = refl

wrong_order : kinds (codes "T#1m1h") ≡ Bad L3 ∷ []
unfolding kinds lexed tokens_from size comment
wrong_order = refl

point_too_early : kinds (codes "T#1.5h3m") ≡ Bad L3 ∷ []
unfolding kinds lexed tokens_from size comment
point_too_early = refl

no_unit : kinds (codes "T#1h5") ≡ Bad L3 ∷ []
unfolding kinds lexed tokens_from size comment
no_unit = refl

word_behind : kinds (codes "T#1d_X") ≡ Span (pos 86400000000000) ∷ w (codes "_X") ∷ End ∷ []
unfolding kinds lexed tokens_from size comment
word_behind = refl

bar_in_digits : kinds (codes "T#1_000ms") ≡ Bad L3 ∷ []
unfolding kinds lexed tokens_from size comment
bar_in_digits = refl

no_parts : kinds (codes "TIME#") ≡ Bad L3 ∷ []
unfolding kinds lexed tokens_from size comment
no_parts = refl

enumeration_named_t : kinds (codes "T#RED") ≡ Bad L3 ∷ []
unfolding kinds lexed tokens_from size comment
enumeration_named_t = refl

minutes_or_milliseconds : kinds (codes "T#1m2s3ms") ≡ Span (pos 62003000000) ∷ End ∷ []
unfolding kinds lexed tokens_from size comment
minutes_or_milliseconds = refl

longest_time : kinds (codes "T#9223372036.854775807s") ≡ Span (pos 9223372036854775807) ∷ End ∷ []
unfolding kinds lexed tokens_from size comment
longest_time = refl

too_long_a_time : kinds (codes "T#9223372036.854775808s") ≡ Bad L4 ∷ []
unfolding kinds lexed tokens_from size comment
too_long_a_time = refl

least_time : kinds (codes "T#-9223372036.854775808s") ≡ Span (neg_ℤ (pos 9223372036854775808)) ∷ End ∷ []
unfolding kinds lexed tokens_from size comment
least_time = refl

no_digits : kinds (codes "16#") ≡ Bad L3 ∷ []
unfolding kinds lexed tokens_from size comment
no_digits = refl

digit_outside : kinds (codes "2#12") ≡ Bad L3 ∷ []
unfolding kinds lexed tokens_from size comment
digit_outside = refl

digit_outside_behind_a_bar : kinds (codes "2#1_2") ≡ Bad L3 ∷ []
unfolding kinds lexed tokens_from size comment
digit_outside_behind_a_bar = refl

letter_behind : kinds (codes "2#1A") ≡ n 1 ∷ w (codes "A") ∷ End ∷ []
unfolding kinds lexed tokens_from size comment
letter_behind = refl

sixteen : kinds (codes "16#fF_f") ≡ n 4095 ∷ End ∷ []
unfolding kinds lexed tokens_from size comment
sixteen = refl

no_base : kinds (codes "3#12") ≡ n 3 ∷ Symbol 22 ∷ n 12 ∷ End ∷ []
unfolding kinds lexed tokens_from size comment
no_base = refl

two_bars : kinds (codes "1__0") ≡ n 1 ∷ Bad L1 ∷ []
unfolding kinds lexed tokens_from size comment
two_bars = refl

bar_before : kinds (codes "_1") ≡ w (codes "_1") ∷ End ∷ []
unfolding kinds lexed tokens_from size comment
bar_before = refl

bar_alone : kinds (codes "_") ≡ Bad L1 ∷ []
unfolding kinds lexed tokens_from size comment
bar_alone = refl

bars_inside : kinds (codes "a__b") ≡ Bad L1 ∷ []
unfolding kinds lexed tokens_from size comment
bars_inside = refl

bar_at_the_end : kinds (codes "a_") ≡ Bad L1 ∷ []
unfolding kinds lexed tokens_from size comment
bar_at_the_end = refl

bar_behind_digits : kinds (codes "12_") ≡ n 12 ∷ Bad L1 ∷ []
unfolding kinds lexed tokens_from size comment
bar_behind_digits = refl

letters_behind_digits : kinds (codes "12ABC") ≡ n 12 ∷ w (codes "ABC") ∷ End ∷ []
unfolding kinds lexed tokens_from size comment
letters_behind_digits = refl

typed_below_zero : kinds (codes "INT#-5") ≡ Number (neg_ℤ (pos 5)) (Some elem.Int) ∷ End ∷ []
unfolding kinds lexed tokens_from size comment
typed_below_zero = refl

bits_below_zero : kinds (codes "BYTE#-1") ≡ Bad L3 ∷ []
unfolding kinds lexed tokens_from size comment
bits_below_zero = refl

no_truth : kinds (codes "BOOL#2") ≡ Bad L3 ∷ []
unfolding kinds lexed tokens_from size comment
no_truth = refl

truth : kinds (codes "BOOL#TRUEX") ≡ Truth true ∷ w (codes "X") ∷ End ∷ []
unfolding kinds lexed tokens_from size comment
truth = refl

out_of_type : kinds (codes "INT#40000") ≡ Number (pos 40000) (Some elem.Int) ∷ End ∷ []
unfolding kinds lexed tokens_from size comment
out_of_type = refl

typed_and_based : kinds (codes "word#16#ff") ≡ Number (pos 255) (Some elem.Word) ∷ End ∷ []
unfolding kinds lexed tokens_from size comment
typed_and_based = refl

no_integer : kinds (codes "INT#A") ≡ Bad L3 ∷ []
unfolding kinds lexed tokens_from size comment
no_integer = refl

left_owner : kinds (codes "D#5") ≡ Left (codes "D#") ∷ n 5 ∷ End ∷ []
unfolding kinds lexed tokens_from size comment
left_owner = refl

left_word : kinds (codes "real#1") ≡ Left (codes "REAL#") ∷ n 1 ∷ End ∷ []
unfolding kinds lexed tokens_from size comment
left_word = refl

power : kinds (codes "A**2") ≡ w (codes "A") ∷ Left (codes "**") ∷ n 2 ∷ End ∷ []
unfolding kinds lexed tokens_from size comment
power = refl

quotation : kinds (codes "'") ≡ Left (codes "'") ∷ End ∷ []
unfolding kinds lexed tokens_from size comment
quotation = refl

located : kinds (codes "%IX0.0") ≡ Address 73 88 (0 ∷ 0 ∷ []) ∷ End ∷ []
unfolding kinds lexed tokens_from size comment
located = refl

no_size : kinds (codes "%q07.99999") ≡ Address 81 88 (7 ∷ 65536 ∷ []) ∷ End ∷ []
unfolding kinds lexed tokens_from size comment
no_size = refl

star : kinds (codes "%Q*") ≡ Left (codes "%Q*") ∷ End ∷ []
unfolding kinds lexed tokens_from size comment
star = refl

no_direction : kinds (codes "%X") ≡ Bad L3 ∷ []
unfolding kinds lexed tokens_from size comment
no_direction = refl

no_numbers : kinds (codes "%IX") ≡ Bad L3 ∷ []
unfolding kinds lexed tokens_from size comment
no_numbers = refl

point_behind : kinds (codes "%IX0.") ≡ Address 73 88 (0 ∷ []) ∷ Symbol 13 ∷ End ∷ []
unfolding kinds lexed tokens_from size comment
point_behind = refl

inclusion : kinds (codes "{#Include \n\"a-b.st\"}") ≡ Include (codes "a-b.st") ∷ End ∷ []
unfolding kinds lexed tokens_from size comment
inclusion = refl

no_inclusion : kinds (codes "{ #include") ≡ Left (codes "{") ∷ Symbol 22 ∷ w (codes "INCLUDE") ∷ End ∷ []
unfolding kinds lexed tokens_from size comment
no_inclusion = refl

open_comment : kinds (codes "(*)") ≡ Bad L2 ∷ []
unfolding kinds lexed tokens_from size comment
open_comment = refl

commented : kinds (codes "(*)*)A") ≡ w (codes "A") ∷ End ∷ []
unfolding kinds lexed tokens_from size comment
commented = refl

greatest : kinds (codes "18446744073709551615") ≡ n 18446744073709551615 ∷ End ∷ []
unfolding kinds lexed tokens_from size comment
greatest = refl

too_great : kinds (codes "18446744073709551616") ≡ Bad L4 ∷ []
unfolding kinds lexed tokens_from size comment
too_great = refl

not_below_the_least : kinds (codes "LINT#-9223372036854775809") ≡ Bad L4 ∷ []
unfolding kinds lexed tokens_from size comment
not_below_the_least = refl

no_byte : kinds (codes "}") ≡ Bad L1 ∷ []
unfolding kinds lexed tokens_from size comment
no_byte = refl

nested : nested_kinds (codes "(* (* *) *)A") ≡ w (codes "A") ∷ End ∷ []
unfolding nested_kinds lexed tokens_from size comment
nested = refl

not_nested : kinds (codes "(* (* *) *)A") ≡ Symbol 16 ∷ Symbol 7 ∷ w (codes "A") ∷ End ∷ []
unfolding kinds lexed tokens_from size comment
not_nested = refl

nested_open : nested_kinds (codes "(* (* *)") ≡ Bad L2 ∷ []
unfolding nested_kinds lexed tokens_from size comment
nested_open = refl

longest_word : kinds (codes "AAAAAAAAAAAAAAAAAAAAAAAAAAAAAAAAAAAAAAAAAAAAAAAAAAAAAAAAAAAAAAAA") ≡ w (codes "AAAAAAAAAAAAAAAAAAAAAAAAAAAAAAAAAAAAAAAAAAAAAAAAAAAAAAAAAAAAAAAA") ∷ End ∷ []
unfolding kinds lexed tokens_from size comment
longest_word = refl

too_long_a_word : kinds (codes "AAAAAAAAAAAAAAAAAAAAAAAAAAAAAAAAAAAAAAAAAAAAAAAAAAAAAAAAAAAAAAAAA") ≡ Bad L5 ∷ []
unfolding kinds lexed tokens_from size comment
too_long_a_word = refl

-- ---- the sort of each symbol

symbols : map (λ text. sort_of (first_kind text)) (codes ":=" ∷ codes "=>" ∷ codes "<>" ∷ codes "<=" ∷ codes ">=" ∷ codes ".." ∷ codes "(" ∷ codes ")" ∷ codes "[" ∷ codes "]" ∷ codes "," ∷ codes ";" ∷ codes ":" ∷ codes "." ∷ codes "+" ∷ codes "-" ∷ codes "*" ∷ codes "/" ∷ codes "&" ∷ codes "=" ∷ codes "<" ∷ codes ">" ∷ codes "#" ∷ [])
    ≡ map sorts.Symbol (symbol.Assign ∷ symbol.Arrow ∷ symbol.Unequal ∷ symbol.AtMost ∷ symbol.AtLeast ∷ symbol.Range ∷ symbol.LeftParenthesis ∷ symbol.RightParenthesis ∷ symbol.LeftBracket ∷ symbol.RightBracket ∷ symbol.Comma ∷ symbol.Semicolon ∷ symbol.Colon ∷ symbol.Dot ∷ symbol.Plus ∷ symbol.Minus ∷ symbol.Times ∷ symbol.Divided ∷ symbol.Ampersand ∷ symbol.Equal ∷ symbol.Below ∷ symbol.Above ∷ symbol.Hash ∷ [])
unfolding size
symbols = refl
