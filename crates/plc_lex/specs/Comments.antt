-- Comments (IEC 61131-3, 2.1.5), which nest or don't.
use Rattle.std.specs.Prelude.{ℕ, zero, suc, ◌+◌, Bool, false, ◌&&◌, ◌==◌, List, [], ◌∷◌, drop, Option, Some, None, if◌then◌else◌}
use Rattle.std.specs.Option.{option_map}

-- the bytes `(*`, and the bytes `*)`
abbrev pub opens : List ℕ → Bool
opens [] = false
opens (b ∷ []) = false
opens (b ∷ c ∷ bs) = (b == 40) && (c == 42)

abbrev pub closes : List ℕ → Bool
closes [] = false
closes (b ∷ []) = false
closes (b ∷ c ∷ bs) = (b == 42) && (c == 41)

-- How many bytes a comment still has; so many comments are open around the innermost one. None where the text ends before it does.
abbrev pub inside : Bool → ℕ → List ℕ → Option ℕ
inside nested around [] = None
inside nested around (b ∷ []) = None
inside nested around (b ∷ c ∷ bs) =
    if closes (b ∷ c ∷ bs) then elim around [ zero ↦ Some 2 | suc n ↦ option_map (λ m. m + 2) (inside nested n bs) ]
    else (if nested && opens (b ∷ c ∷ bs) then option_map (λ m. m + 2) (inside nested (suc around) bs)
    else option_map (λ m. m + 1) (inside nested around (c ∷ bs)))

-- how many bytes the comment has that the text begins with
unfoldable pub comment : Bool → List ℕ → Option ℕ
comment nested text = option_map (λ m. m + 2) (inside nested zero (drop 2 text))
