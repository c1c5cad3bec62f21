-- Addresses (IEC 61131-3, 2.4.1.1): `%`, a direction, the letter of a size or none, and numbers with points between.
use Rattle.std.specs.Prelude.{ℕ, ◌+◌, ◌-◌, ◌*◌, min, Bool, ◌&&◌, ◌||◌, ◌==◌, List, [], ◌∷◌, drop, get_or, map, if◌then◌else◌}
use Rattle.std.specs.Char.{is_digit, to_ascii_uppercase}
use Rattle.plc_base.specs.declared.kind.Kind.{Kind}
use Rattle.plc_base.specs.declared.kind.Kind.TheVariants.{Address, Left, Bad}
use Rattle.plc_base.specs.declared.refusal.Rule.TheVariants.{L3}
use Rattle.plc_spelling.specs.Text.{is_nil, begins_with, apart}
use Rattle.plc_spelling.specs.Words.{capitals}

-- the first byte, as a capital
abbrev pub letter : List ℕ → ℕ
letter bs = to_ascii_uppercase (get_or bs 0 0)

-- I, Q or M
abbrev pub is_direction : ℕ → Bool
is_direction b = (b == 73) || (b == 81) || (b == 77)

-- X, B, W, D or L
abbrev pub is_size : ℕ → Bool
is_size b = (b == 88) || (b == 66) || (b == 87) || (b == 68) || (b == 76)

-- what stands behind the direction and the size
abbrev pub has_size : List ℕ → Bool
has_size bs = is_size (letter (drop 2 bs))

abbrev pub numbers : List ℕ → List ℕ
numbers bs = if has_size bs then drop 3 bs else drop 2 bs

-- decimal numbers with points between
abbrev pub are_numbers : List ℕ → Bool
are_numbers bs = apart (λ b. is_digit b 10) 46 bs

-- a star, which stands for numbers that are given elsewhere
abbrev pub is_star : List ℕ → Bool
is_star bs = begins_with 42 bs && is_nil (drop 1 bs)

-- an address, one with a star, or the front of one that lacks its direction or its numbers
abbrev pub is_address : List ℕ → Bool
is_address bs =
    begins_with 37 bs
    && (is_nil (drop 1 bs)
    || (is_direction (letter (drop 1 bs)) && (is_nil (numbers bs) || are_numbers (numbers bs) || is_star (numbers bs))))

-- the numbers from the one on of whose digits this is the value
abbrev pub split_from : ℕ → List ℕ → List ℕ
split_from n [] = n ∷ []
split_from n (b ∷ bs) = if b == 46 then n ∷ split_from 0 bs else split_from (n * 10 + (b - 48)) bs

-- numbers above 65535 count as 65536
abbrev pub counted : List ℕ → List ℕ
counted bs = map (λ n. min n 65536) (split_from 0 bs)

-- what it spells; without a letter the size is X
abbrev pub address_kind : List ℕ → Kind
address_kind bs =
    if is_direction (letter (drop 1 bs)) && are_numbers (numbers bs)
    then Address (letter (drop 1 bs)) (if has_size bs then letter (drop 2 bs) else 88) (counted (numbers bs))
    else (if is_direction (letter (drop 1 bs)) && is_star (numbers bs) then Left (capitals bs) else Bad L3)
