-- Integers (IEC 61131-3, 2.2.1): decimal digits, or digits of base 2, 8 or 16 behind that number and `#`, with single underscores between.
use Rattle.std.specs.Prelude.{ℕ, ◌+◌, ◌*◌, ◌^◌, max, Bool, ◌&&◌, ◌||◌, ◌==◌, nat_lt, nat_le, List, length, drop, fold, pos, neg_ℤ, codes, Option, if◌then◌else◌}
use Rattle.std.specs.Char.{is_digit, digit_value}
use Rattle.plc_base.specs.declared.elem.Elem.{Elem}
use Rattle.plc_base.specs.declared.kind.Kind.{Kind}
use Rattle.plc_base.specs.declared.kind.Kind.TheVariants.{Number, Bad}
use Rattle.plc_base.specs.declared.refusal.Rule.TheVariants.{L3, L4}
use Rattle.plc_spelling.specs.Text.{is_nil, begins, apart}

-- digits of a base with single underscores between
abbrev pub is_number : ℕ → List ℕ → Bool
is_number base bs = apart (λ b. is_digit b base) 95 bs

-- the number that they spell
abbrev pub value : ℕ → List ℕ → ℕ
value base bs = fold (λ n b. if b == 95 then n else n * base + digit_value b) 0 bs

-- A base's mark, and then its digits, or none. A decimal digit belongs to the spelling also where the base hasn't got it.
abbrev pub is_based : ℕ → List ℕ → List ℕ → Bool
is_based base mark bs = begins mark bs && (is_nil (drop (length mark) bs) || is_number (max base 10) (drop (length mark) bs))

abbrev pub is_integer : List ℕ → Bool
is_integer bs = is_number 10 bs || is_based 2 (codes "2#") bs || is_based 8 (codes "8#") bs || is_based 16 (codes "16#") bs

-- an integer of these digits; one that lacks a digit, or has one that its base lacks, is of no form
abbrev pub digits_kind : Option Elem → ℕ → List ℕ → Kind
digits_kind want base digits =
    if is_number base digits then (if nat_lt (value base digits) (2 ^ 64) then Number (pos (value base digits)) want else Bad L4)
    else Bad L3

-- what an integer spells, whose type is given before it or isn't
abbrev pub integer_kind : Option Elem → List ℕ → Kind
integer_kind want bs =
    if begins (codes "2#") bs then digits_kind want 2 (drop 2 bs)
    else (if begins (codes "8#") bs then digits_kind want 8 (drop 2 bs)
    else (if begins (codes "16#") bs then digits_kind want 16 (drop 3 bs)
    else digits_kind want 10 bs))

-- an integer below 0, of these decimal digits
abbrev pub negative_kind : Option Elem → List ℕ → Kind
negative_kind want digits = if nat_le (value 10 digits) (2 ^ 63) then Number (neg_ℤ (pos (value 10 digits))) want else Bad L4
