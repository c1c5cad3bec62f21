-- The address of a cell as it is written from outside (IEC 61131-3, 2.4.1.1): `%`, the letter of a direction, the letter of a
-- size, which is X where there is none, and one or more numbers with a dot between two of them. The case of letters says
-- nothing, and numbers may begin with zeros.
use Rattle.std.specs.Prelude.{ℕ, ◌-◌, Bool, ◌&&◌, ◌||◌, ◌==◌, nat_le, List, [], ◌∷◌, ◌++◌, Option, Some, None, if◌then◌else◌}
use Rattle.std.specs.Str.Parse.{digits_value}

-- the capital letters of a direction and of a size, and the numbers
pub record Address : Type 0 where
  pub dir : ℕ
  pub size : ℕ
  pub numbers : List ℕ

-- I, Q or M
abbrev pub is_direction : ℕ → Bool
is_direction b = (b == 73) || (b == 81) || (b == 77)

-- X, B, W, D or L
abbrev pub is_size : ℕ → Bool
is_size b = (b == 88) || (b == 66) || (b == 87) || (b == 68) || (b == 76)

abbrev pub capital : ℕ → ℕ
capital b = if nat_le 97 b && nat_le b 122 then b - 32 else b

-- a number has digits
abbrev pub before : List ℕ → Option (List ℕ) → Option (List ℕ)
before [] later = None
before (d ∷ ds) None = None
before (d ∷ ds) (Some ns) = Some (digits_value 10 (d ∷ ds) ∷ ns)

-- the numbers of a text behind these digits
abbrev pub numbers_in : (digits : List ℕ) → List ℕ → Option (List ℕ)
numbers_in digits [] = before digits (Some [])
numbers_in digits (b ∷ rest) =
    if nat_le 48 b && nat_le b 57 then numbers_in (digits ++ (b ∷ [])) rest else if b == 46 then before digits (numbers_in [] rest) else None

abbrev pub addressed : ℕ → ℕ → Option (List ℕ) → Option Address
addressed dir size None = None
addressed dir size (Some ns) = Some (record { dir = dir; size = size; numbers = ns })

abbrev pub behind_direction : ℕ → List ℕ → Option Address
behind_direction dir [] = None
behind_direction dir (b ∷ rest) = if is_size (capital b) then addressed dir (capital b) (numbers_in [] rest) else addressed dir 88 (numbers_in [] (b ∷ rest))

abbrev pub address_in : List ℕ → Option Address
address_in [] = None
address_in (p ∷ []) = None
address_in (p ∷ d ∷ rest) = if (p == 37) && is_direction (capital d) then behind_direction (capital d) rest else None
