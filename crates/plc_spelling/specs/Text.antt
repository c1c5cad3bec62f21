-- Fronts of texts: blanks, runs of bytes of one class, what a text begins with, and the greatest front that passes a test.
use Rattle.std.specs.Prelude.{◌≡◌, ℕ, zero, suc, ◌<◌, ◌≤◌, Bool, true, false, ◌&&◌, ◌||◌, ◌==◌, List, [], ◌∷◌, ◌++◌, length, take, drop, if◌then◌else◌}
use Rattle.std.specs.List.{prefix_len}
use Rattle.std.specs.Str.{str_eq_ignore_ascii_case}

-- a space, a tab, a carriage return or a line feed
abbrev pub is_blank : ℕ → Bool
is_blank b = (b == 32) || (b == 9) || (b == 13) || (b == 10)

-- a list without an element
abbrev pub is_nil : List ℕ → Bool
is_nil [] = true
is_nil (b ∷ bs) = false

-- the longest front whose bytes are all of a class, and what stands behind it
abbrev pub run_of : (ℕ → Bool) → List ℕ → List ℕ
run_of class text = take (prefix_len class text) text

abbrev pub behind_run : (ℕ → Bool) → List ℕ → List ℕ
behind_run class text = drop (prefix_len class text) text

-- the text begins with these bytes, in letters of either case
abbrev pub begins : List ℕ → List ℕ → Bool
begins front text = str_eq_ignore_ascii_case front (take (length front) text)

-- the text begins with this byte
abbrev pub begins_with : ℕ → List ℕ → Bool
begins_with b [] = false
begins_with b (c ∷ cs) = c == b

-- a byte of the class stands before each of the separators and behind it, and at both ends
abbrev pub apart : (ℕ → Bool) → ℕ → List ℕ → Bool
apart class separator [] = false
apart class separator (b ∷ []) = class b
apart class separator (b ∷ c ∷ bs) = class b && (if c == separator then apart class separator bs else apart class separator (c ∷ bs))

-- the greatest number of first bytes, up to n, that pass the test, and 0 where none do
abbrev pub longest_to : (List ℕ → Bool) → List ℕ → ℕ → ℕ
longest_to passes text zero = zero
longest_to passes text (suc n) = if passes (take (suc n) text) then suc n else longest_to passes text n

-- the greatest number of first bytes that pass the test, and 0 where none do
abbrev pub longest : (List ℕ → Bool) → List ℕ → ℕ
longest passes text = longest_to passes text (length text)

-- n is the greatest number of first bytes that pass the test, or 0 where none do
pub record IsGreatest (passes : List ℕ → Bool) (text : List ℕ) (n : ℕ) : Type 0 where
  pub passed : 0 < n → passes (take n text) ≡ true
  pub most : (front rest : List ℕ) → front ++ rest ≡ text → passes front ≡ true → length front ≤ n
  pub within : n ≤ length text
