-- Names that are put together.
use Rattle.std.proofs.Common.{◌≡◌, refl, ℕ, Bool, true, ◌&&◌, List, [], ◌∷◌, ◌++◌}
use Rattle.c_tree.specs.CTokens.{is_letter, is_word_byte, are_word_bytes, IsName}
use Rattle.c_tree.proofs.CuttingLaws.{and_left, and_right}

both : (a b : Bool) → a ≡ true → b ≡ true → (a && b) ≡ true
both a b h k = rw (h, k) refl

letter_is_word_byte : (b : ℕ) → is_letter b ≡ true → is_word_byte b ≡ true
letter_is_word_byte b h = rw h refl

pub are_word_bytes-append : (xs ys : List ℕ) → are_word_bytes xs ≡ true → are_word_bytes ys ≡ true → are_word_bytes (xs ++ ys) ≡ true
are_word_bytes-append [] ys h k = k
are_word_bytes-append (x ∷ xs) ys h k =
    both (is_word_byte x) (are_word_bytes (xs ++ ys)) (and_left (is_word_byte x) (are_word_bytes xs) h)
    (are_word_bytes-append xs ys (and_right (is_word_byte x) (are_word_bytes xs) h) k)

pub are_word_bytes-name : (name : List ℕ) → IsName name → are_word_bytes name ≡ true
are_word_bytes-name [] h = refl
are_word_bytes-name (b ∷ rest) h =
    both (is_word_byte b) (are_word_bytes rest) (letter_is_word_byte b (and_left (is_letter b) (are_word_bytes rest) h)) (and_right (is_letter b) (are_word_bytes rest) h)

-- a name with letters, digits and _ behind it
pub IsName-append : (name more : List ℕ) → IsName name → are_word_bytes more ≡ true → IsName (name ++ more)
IsName-append [] more h k = cc
IsName-append (b ∷ rest) more h k =
    both (is_letter b) (are_word_bytes (rest ++ more)) (and_left (is_letter b) (are_word_bytes rest) h)
    (are_word_bytes-append rest more (and_right (is_letter b) (are_word_bytes rest) h) k)
