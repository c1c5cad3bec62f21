-- The number at the front of a part of a duration, in a text that goes on.
use Rattle.std.proofs.Common.{◌≡◌, ℕ, suc, ◌+◌, ◌-◌, ◌<◌, ◌≤◌, Bool, true, false, ◌⊎◌, ◌==◌, eqb, List, [], ◌∷◌, ◌++◌, length, take, drop, refl, sym, ap, subst, ◌∙◌, arith, inl, inr, if◌then◌else◌}
use Rattle.std.specs.Char.{is_ascii_digit}
use Rattle.std.specs.List.{prefix_len}
use Rattle.std.proofs.lemmas.Bool.{cases_lt, cond_both, eqb-true}
use Rattle.std.proofs.lemmas.List.{length-append, length-drop, take-append-le, drop-append-le, take-append-drop, take_at}
use Rattle.std.proofs.lemmas.List.Sums.{prefix_len-le-length}
use Rattle.std.proofs.lemmas.List.Folds.{prefix_len-append}
use Rattle.plc_spelling.specs.Text.{begins_with, run_of, behind_run}
use Rattle.plc_spelling.proofs.Runs.{run-stays, run-grows}
use Rattle.plc_spelling.specs.Durations.{whole, has_point, fraction, behind_number}

-- ---- runs in a text that goes on

pub run-ends : (p : ℕ → Bool) (xs ys : List ℕ) → prefix_len p ys ≡ 0 → prefix_len p (xs ++ ys) ≡ prefix_len p xs
run-ends p xs ys h =
    prefix_len-append p xs ys
    ∙ cond_both (eqb (prefix_len p xs) (length xs)) (length xs + prefix_len p ys) (prefix_len p xs) (λ n. n ≡ prefix_len p xs)
    (λ e. omega (arith, eqb-true (prefix_len p xs) (length xs) e)) (λ e. refl)

behind-grows : (p : ℕ → Bool) (xs ys : List ℕ) → length (behind_run p (xs ++ ys)) ≤ length (behind_run p xs) + length ys
behind-grows p xs ys =
    omega (
      arith,
      length-drop (prefix_len p (xs ++ ys)) (xs ++ ys),
      length-drop (prefix_len p xs) xs,
      length-append xs ys,
      run-grows p xs ys,
      prefix_len-le-length p xs,
    )

-- what a run leaves, where it ends before the text does or where no more of it follows
pub behind-stays : (p : ℕ → Bool) (xs ys : List ℕ) → prefix_len p (xs ++ ys) ≡ prefix_len p xs
    → (run_of p (xs ++ ys) ≡ run_of p xs) × (behind_run p (xs ++ ys) ≡ behind_run p xs ++ ys)
behind-stays p xs ys e =
    let within = prefix_len-le-length p xs in (
      ap (λ n. take n (xs ++ ys)) e ∙ take-append-le (prefix_len p xs) xs ys within,
      ap (λ n. drop n (xs ++ ys)) e
          ∙ drop-append-le (prefix_len p xs) xs ys within,
    )

-- ---- what stands behind the first digits of a number

abbrev fraction_at : List ℕ → List ℕ
fraction_at y = if begins_with 46 y then run_of is_ascii_digit (drop 1 y) else []

abbrev pub behind_at : List ℕ → List ℕ
behind_at y = if begins_with 46 y then behind_run is_ascii_digit (drop 1 y) else y

record GoesOn (y r : List ℕ) : Type 0 where
  point : begins_with 46 (y ++ r) ≡ begins_with 46 y
  fraction_is : fraction_at (y ++ r) ≡ fraction_at y
  behind : behind_at (y ++ r) ≡ behind_at y ++ r

goes-on : (y r : List ℕ) → 0 < length (behind_at y) → GoesOn y r
goes-on [] r h = absurd (omega arith)
goes-on (b ∷ ys) r h = let e = by_test (b == 46) h in record { point = refl; fraction_is = e.0; behind = e.1 }
  where
    by_test : (t : Bool) → 0 < length (if t then behind_run is_ascii_digit ys else b ∷ ys)
        → ((if t then run_of is_ascii_digit (ys ++ r) else []) ≡ (if t then run_of is_ascii_digit ys else []))
        × ((if t then behind_run is_ascii_digit (ys ++ r) else b ∷ (ys ++ r)) ≡ (if t then behind_run is_ascii_digit ys else b ∷ ys) ++ r)
    by_test true k = behind-stays is_ascii_digit ys r (run-stays is_ascii_digit ys r (omega (arith, length-drop (prefix_len is_ascii_digit ys) ys)))
    by_test false k = (refl, refl)

behind-within : (y : List ℕ) → length (behind_at y) ≤ length y
behind-within [] = omega arith
behind-within (b ∷ ys) = by_test (b == 46)
  where
    by_test : (t : Bool) → length (if t then behind_run is_ascii_digit ys else b ∷ ys) ≤ suc (length ys)
    by_test true = omega (arith, length-drop (prefix_len is_ascii_digit ys) ys)
    by_test false = omega arith

at-grows : (y r : List ℕ) → length (behind_at (y ++ r)) ≤ length (behind_at y) + length r
at-grows [] r = let e = behind-within r in omega arith
at-grows (b ∷ ys) r = by_test (b == 46)
  where
    by_test : (t : Bool)
        → length (if t then behind_run is_ascii_digit (ys ++ r) else b ∷ (ys ++ r)) ≤ length (if t then behind_run is_ascii_digit ys else b ∷ ys) + length r
    by_test true = behind-grows is_ascii_digit ys r
    by_test false = omega (arith, length-append ys r)

-- ---- the number at the front of a text that goes on

-- more bytes change nothing of the number
pub record Extends (s r : List ℕ) : Type 0 where
  pub digits : whole (s ++ r) ≡ whole s
  pub point : has_point (s ++ r) ≡ has_point s
  pub fraction_is : fraction (s ++ r) ≡ fraction s
  pub behind : behind_number (s ++ r) ≡ behind_number s ++ r

pub extends : (s r : List ℕ) → 0 < length (behind_number s) → Extends s r
extends s r h =
    let y = behind_run is_ascii_digit s in
    let left : 0 < length y = omega (arith, behind-within y) in
    let run = run-stays is_ascii_digit s r (omega (arith, length-drop (prefix_len is_ascii_digit s) s)) in
    let e = behind-stays is_ascii_digit s r run in
    let g = goes-on y r h in
    record {
      digits = e.0;
      point = ap (begins_with 46) e.1 ∙ g.point;
      fraction_is = ap fraction_at e.1 ∙ g.fraction_is;
      behind = ap behind_at e.1 ∙ g.behind;
    }

pub number-within : (s : List ℕ) → length (behind_number s) ≤ length s
number-within s = omega (arith, behind-within (behind_run is_ascii_digit s), length-drop (prefix_len is_ascii_digit s) s)

number-grows : (s r : List ℕ) → length (behind_number (s ++ r)) ≤ length (behind_number s) + length r
number-grows s r = by_case (cases_lt (prefix_len is_ascii_digit s) (length s))
  where
    by_case : (prefix_len is_ascii_digit s < length s) ⊎ (length s ≤ prefix_len is_ascii_digit s)
        → length (behind_number (s ++ r)) ≤ length (behind_number s) + length r
    by_case (inl h) =
        let e = behind-stays is_ascii_digit s r (run-stays is_ascii_digit s r h) in
        subst (λ z. length (behind_at z) ≤ length (behind_number s) + length r) (sym e.1) (at-grows (behind_run is_ascii_digit s) r)
    by_case (inr h) =
        omega (arith, behind-within (behind_run is_ascii_digit (s ++ r)), behind-grows is_ascii_digit s r, length-drop (prefix_len is_ascii_digit s) s)

-- a front that ends behind the number of its text
pub record Cuts (q : ℕ) (s : List ℕ) : Type 0 where
  pub extends_to : Extends (take q s) (drop q s)
  pub whole_of : take q s ++ drop q s ≡ s
  pub left : 0 < length (behind_number (take q s))
  pub behind : behind_number (take q s) ≡ take (q - (length s - length (behind_number s))) (behind_number s)

pub cuts : (q : ℕ) (s : List ℕ) → length s - length (behind_number s) < q → q ≤ length s → Cuts q s
cuts q s h k =
    let c = take q s in
    let r = drop q s in
    let e = take-append-drop q s in
    let g = subst (λ x. length (behind_number x) ≤ length (behind_number c) + length r) e (number-grows c r) in
    let n = length-drop q s in
    let w = number-within s in
    let left : 0 < length (behind_number c) = omega arith in
    let x = extends c r left in
    let split : behind_number c ++ r ≡ behind_number s = sym x.behind ∙ ap behind_number e in
    let size : length (behind_number c) ≡ q - (length s - length (behind_number s)) = omega (arith, length-append (behind_number c) r, ap length split) in
    record {
      extends_to = x;
      whole_of = e;
      left = left;
      behind =
          sym (ap (take (q - (length s - length (behind_number s)))) (sym split)
          ∙ take_at (behind_number c) r (q - (length s - length (behind_number s))) size);
    }
