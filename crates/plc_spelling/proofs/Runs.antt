-- Runs at the front of a text, and bytes in letters of either case.
use Rattle.std.proofs.Common.{◌≡◌, ℕ, ◌+◌, ◌<◌, ◌≤◌, Bool, true, false, cond, eqb, List, [], ◌∷◌, ◌++◌, length, take, refl, sym, ap, subst, ◌∙◌, arith, one-add, map}
use Rattle.std.specs.List.{list_all, prefix_len}
use Rattle.std.proofs.lemmas.List.{length-map, take_all, append-nil}
use Rattle.std.proofs.lemmas.Bool.{and_parts, cond-true, cond-false, cond_both, eqb-true, ne_eqb}
use Rattle.std.proofs.lemmas.List.Folds.{prefix_len-append}
use Rattle.std.specs.Str.{str_eq_ignore_ascii_case}
use Rattle.std.specs.Char.{to_ascii_lowercase}
use Rattle.std.proofs.lemmas.Slice.Eq.{bytes_eq-Decides}

module _ (p : ℕ → Bool) where
  -- the run passes
  pub run-passes : (xs : List ℕ) → list_all p (take (prefix_len p xs) xs) ≡ true
  run-passes [] = refl
  run-passes (x ∷ xs) = at_test (p x) refl (run-passes xs)
    where
      at_test : (t : Bool) → p x ≡ t → list_all p (take (prefix_len p xs) xs) ≡ true → list_all p (take (cond t (1 + prefix_len p xs) 0) (x ∷ xs)) ≡ true
      at_test true e rest = rw (one-add (prefix_len p xs)) (rw (e, rest))
      at_test false e rest = refl

  -- no front that passes is longer
  pub run-longest : (s rest : List ℕ) → list_all p s ≡ true → length s ≤ prefix_len p (s ++ rest)
  run-longest [] rest h = omega arith
  run-longest (x ∷ s) rest h =
      let parts = and_parts (p x) (list_all p s) h in
      let ih = run-longest s rest parts.1 in
      rw (cond-true (p x) (1 + prefix_len p (s ++ rest)) 0 parts.0) (omega arith)

  -- a list that passes is its own run
  pub run-whole : (s : List ℕ) → list_all p s ≡ true → take (prefix_len p s) s ≡ s
  run-whole s h = take_all (prefix_len p s) s (subst (λ xs. length s ≤ prefix_len p xs) (append-nil s) (run-longest s [] h))

  -- the run of a front that ends within it is the run of the text
  pub run-stays : (xs ys : List ℕ) → prefix_len p xs < length xs → prefix_len p (xs ++ ys) ≡ prefix_len p xs
  run-stays xs ys h =
      prefix_len-append p xs ys
      ∙ cond-false (eqb (prefix_len p xs) (length xs)) (length xs + prefix_len p ys) (prefix_len p xs)
      (ne_eqb (prefix_len p xs) (length xs) (λ e. omega (arith, h, e)))

  -- no run is shorter where the text goes on
  pub run-grows : (xs ys : List ℕ) → prefix_len p xs ≤ prefix_len p (xs ++ ys)
  run-grows xs ys =
      subst (λ n. prefix_len p xs ≤ n) (sym (prefix_len-append p xs ys))
      (cond_both (eqb (prefix_len p xs) (length xs)) (length xs + prefix_len p ys) (prefix_len p xs) (λ n. prefix_len p xs ≤ n)
      (λ e. omega (arith, eqb-true (prefix_len p xs) (length xs) e)) (λ e. omega arith))

  -- the run of a text that ends within a front is the run of that front
  pub run-ended : (xs ys : List ℕ) → prefix_len p (xs ++ ys) < length xs → prefix_len p (xs ++ ys) ≡ prefix_len p xs
  run-ended xs ys h = run-stays xs ys (omega (arith, h, run-grows xs ys))

-- texts that are equal in letters of either case are of one length
pub same_length : (s t : List ℕ) → str_eq_ignore_ascii_case s t ≡ true → length s ≡ length t
same_length s t h =
    let e = (bytes_eq-Decides (map to_ascii_lowercase s) (map to_ascii_lowercase t)).0 h in
    sym (length-map s to_ascii_lowercase) ∙ ap length e ∙ length-map t to_ascii_lowercase
