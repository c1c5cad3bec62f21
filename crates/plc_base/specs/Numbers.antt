-- The numbers of the elementary types (IEC 61131-3, 2.3.1) and what is left of a whole number in one.
use Rattle.std.specs.Prelude.{ℕ, ◌-◌, ◌%◌, ◌^◌, ◌<◌, ℤ, pos, negsuc, Bool, true, false, nat_lt, List, [], ◌∷◌, if◌then◌else◌}
use Rattle.plc_base.specs.declared.elem.Elem.{Elem}
use Rattle.plc_base.specs.declared.elem.Elem.TheVariants.{Sint, Int, Dint, Lint, Usint, Uint, Udint, Ulint, Byte, Word, Dword, Lword, Bool as Boolean, Time}

-- all types, in the order in which typing takes them
abbrev pub elems : List Elem
elems = Sint ∷ Int ∷ Dint ∷ Lint ∷ Usint ∷ Uint ∷ Udint ∷ Ulint ∷ Byte ∷ Word ∷ Dword ∷ Lword ∷ Boolean ∷ Time ∷ []

-- how many bits a type has
abbrev pub width : Elem → ℕ
width Sint = 8
width Int = 16
width Dint = 32
width Lint = 64
width Usint = 8
width Uint = 16
width Udint = 32
width Ulint = 64
width Byte = 8
width Word = 16
width Dword = 32
width Lword = 64
width Boolean = 1
width Time = 64

-- whether its numbers are two's complement; the others are unsigned
abbrev pub is_signed : Elem → Bool
is_signed Sint = true
is_signed Int = true
is_signed Dint = true
is_signed Lint = true
is_signed Usint = false
is_signed Uint = false
is_signed Udint = false
is_signed Ulint = false
is_signed Byte = false
is_signed Word = false
is_signed Dword = false
is_signed Lword = false
is_signed Boolean = false
is_signed Time = true

-- the lowest and the highest number of w bits, with a sign or without
abbrev pub low_bits : Bool → ℕ → ℤ
low_bits false w = pos 0
low_bits true w = negsuc (2 ^ (w - 1) - 1)

abbrev pub high_bits : Bool → ℕ → ℤ
high_bits false w = pos (2 ^ w - 1)
high_bits true w = pos (2 ^ (w - 1) - 1)

abbrev pub low : Elem → ℤ
low t = low_bits (is_signed t) (width t)

abbrev pub high : Elem → ℤ
high t = high_bits (is_signed t) (width t)

-- from the lowest to the highest number of w bits
abbrev pub FitsBits : Bool → ℕ → ℤ → Type 0
FitsBits false w (pos n) = n < 2 ^ w
FitsBits false w (negsuc n) = ⊥
FitsBits true w (pos n) = n < 2 ^ (w - 1)
FitsBits true w (negsuc n) = n < 2 ^ (w - 1)

-- a number of the type
abbrev pub Fits : Elem → ℤ → Type 0
Fits t z = FitsBits (is_signed t) (width t) z

-- the number from 0 to m - 1 that differs from z by a multiple of m
abbrev pub residue : ℕ → ℤ → ℕ
residue m (pos n) = n % m
residue m (negsuc n) = m - 1 - n % m

-- the number whose w bits are n, with a sign or without
abbrev pub reading : Bool → ℕ → ℕ → ℤ
reading false w n = pos n
reading true w n = if nat_lt n (2 ^ (w - 1)) then pos n else negsuc (2 ^ w - 1 - n)

-- what is left of z in w bits
abbrev pub wrap_bits : Bool → ℕ → ℤ → ℤ
wrap_bits s w z = reading s w (residue (2 ^ w) z)

-- the number of the type that differs from z by a multiple of 2 to its width
abbrev pub wrap : Elem → ℤ → ℤ
wrap t z = wrap_bits (is_signed t) (width t) z
