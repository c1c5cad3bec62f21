-- A look-up in a table of owners, row by row.
use Rattle.std.proofs.Common.{◌≡◌, ℕ, ◌+◌, ◌<◌, true, false, List, length, drop, get_or, map, Some, ap, ◌∙◌, if◌then◌else◌}
use Rattle.std.specs.Str.{str_eq_ignore_ascii_case}
use Rattle.std.proofs.lemmas.List.{drop_more}
use Rattle.std.proofs.lemmas.Bool.{cond-true, cond-false}
use Rattle.plc_spelling.specs.Literals.{Owning, owner_in}

module _ {A : Type 0} (f : A → Owning) (xs : List A) (i : ℕ) (d : A) (word : List ℕ) where
  owner_in-at : i < length xs → owner_in (map f (drop i xs)) word
      ≡ (if str_eq_ignore_ascii_case (f (get_or xs i d)).word word then Some (f (get_or xs i d)).owner else owner_in (map f (drop (i + 1) xs)) word)
  owner_in-at h = ap (λ ys. owner_in (map f ys) word) (drop_more xs i d h)

  pub owner_in-here : i < length xs → str_eq_ignore_ascii_case (f (get_or xs i d)).word word ≡ true → owner_in (map f (drop i xs)) word ≡ Some (f (get_or xs i d)).owner
  owner_in-here h e = owner_in-at h ∙ cond-true (str_eq_ignore_ascii_case (f (get_or xs i d)).word word) _ _ e

  pub owner_in-next : i < length xs → str_eq_ignore_ascii_case (f (get_or xs i d)).word word ≡ false → owner_in (map f (drop i xs)) word ≡ owner_in (map f (drop (i + 1) xs)) word
  owner_in-next h e = owner_in-at h ∙ cond-false (str_eq_ignore_ascii_case (f (get_or xs i d)).word word) _ _ e
