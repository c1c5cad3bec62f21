-- What a duration spells: the part of a unit that digits behind a point are, and numbers that are cut at a limit.
use Rattle.std.proofs.Common.{◌≡◌, ℕ, suc, ◌+◌, ◌-◌, ◌*◌, ◌/◌, ◌^◌, ◌<◌, ◌≤◌, Bool, true, false, ◌&&◌, ◌==◌, List, [], ◌∷◌, length, get_or, take, drop, Option, Some, None, refl, sym, ap, ◌∙◌, arith, min, fold, if◌then◌else◌}
use Rattle.std.specs.Char.{is_ascii_digit, digit_value}
use Rattle.std.specs.List.{list_all}
use Rattle.std.specs.Option.{option_map}
use Rattle.std.proofs.lemmas.Bool.{and_parts}
use Rattle.std.proofs.lemmas.Bool.Decides.{nat_tests}
use Rattle.std.proofs.lemmas.Grind.{common_steps}
use Rattle.std.proofs.lemmas.List.{drop_more, take-append-drop}
use Rattle.std.proofs.lemmas.List.Folds.{list_all-append}
use Rattle.std.proofs.Math.Nat.{pow-suc, one-le-pow, div-div-eq-div-mul, mul-add-div_right, mul-le-mul_left, div-le_of_le-mul}
use Rattle.plc_base.specs.declared.kind.Kind.TheVariants.{Bad}
use Rattle.plc_base.specs.declared.refusal.Rule.TheVariants.{L3}
use Rattle.plc_spelling.specs.Integers.{value}
use Rattle.plc_spelling.specs.Durations.{span_kind, has_point, fraction}
use Rattle.plc_spelling.specs.Text.{run_of, behind_run}
use Rattle.plc_spelling.proofs.Runs.{run-passes}

digit-is : (d : ℕ) → is_ascii_digit d ≡ true → (48 ≤ d) × (d ≤ 57)
digit-is d h = grind (arith, nat_tests)

digit-value : (d : ℕ) → is_ascii_digit d ≡ true → digit_value d ≡ d - 48
digit-value d h = let e = digit-is d h in grind (arith, nat_tests, common_steps)

-- the number with one more digit
abbrev step : ℕ → ℕ → ℕ
step n b = if b == 95 then n else n * 10 + digit_value b

step-is : (n d : ℕ) → is_ascii_digit d ≡ true → step n d ≡ n * 10 + (d - 48)
step-is n d h = let e = digit-is d h in let v = digit-value d h in grind (arith, nat_tests, common_steps)

first-is : (d : ℕ) → is_ascii_digit d ≡ true → (if d == 95 then 0 else 0 + digit_value d) ≡ d - 48
first-is d h = let e = digit-is d h in let v = digit-value d h in grind (arith, nat_tests, common_steps)

sum-of : (s z n d P Q V A B : ℕ) → s ≡ n * 10 + d → z ≡ d → Q ≡ P * 10 → A ≡ z * P + V → B ≡ s * P + V → B ≡ n * Q + A
sum-of s z n d P Q V A B e f g h k = omega (arith, ap (λ x. x * P) e, ap (λ x. x * P) f, ap (λ x. n * x) g)

-- digits behind a number
value-behind : (n : ℕ) (ds : List ℕ) → list_all is_ascii_digit ds ≡ true → fold step n ds ≡ n * 10 ^ length ds + value 10 ds
value-behind n [] h = omega arith
value-behind n (d ∷ ds) h =
    let p = and_parts (is_ascii_digit d) (list_all is_ascii_digit ds) h in
    sum-of _ _ n (d - 48) (10 ^ length ds) _ (value 10 ds) _ _ (step-is n d p.0) (first-is d p.0) (pow-suc 10 (length ds))
    (value-behind (if d == 95 then 0 else 0 + digit_value d) ds p.1) (value-behind (step n d) ds p.1)

share-of : (A e P V u Q : ℕ) → 0 < P → A ≡ e * P + V → Q ≡ P * 10 → A * u / Q ≡ (u * e + V * u / P) / 10
share-of A e P V u Q some h q =
    let split : A * u ≡ (u * e) * P + V * u = omega (arith, ap (λ x. x * u) h) in
    ap (λ x. A * u / x) q ∙ ap (λ x. x / (P * 10)) split ∙ sym (div-div-eq-div-mul (u * e * P + V * u) P 10)
    ∙ ap (λ x. x / 10) (mul-add-div_right some (u * e) (V * u))

-- the part of a unit that a digit and the digits behind it are
pub share-more : (unit d : ℕ) (ds : List ℕ) → is_ascii_digit d ≡ true → list_all is_ascii_digit ds ≡ true
    → value 10 (d ∷ ds) * unit / 10 ^ suc (length ds) ≡ (unit * (d - 48) + value 10 ds * unit / 10 ^ length ds) / 10
share-more unit d ds h k =
    let e : fold step (if d == 95 then 0 else 0 + digit_value d) ds ≡ (d - 48) * 10 ^ length ds + value 10 ds =
    value-behind (if d == 95 then 0 else 0 + digit_value d) ds k ∙ ap (λ x. x * 10 ^ length ds + value 10 ds) (first-is d h) in
    share-of _ (d - 48) (10 ^ length ds) (value 10 ds) unit _ (one-le-pow (length ds) 10 (omega arith)) e (pow-suc 10 (length ds))

digits-from : (i : ℕ) (ds : List ℕ) → list_all is_ascii_digit ds ≡ true → list_all is_ascii_digit (drop i ds) ≡ true
digits-from i ds h =
    let e : (list_all is_ascii_digit (take i ds) && list_all is_ascii_digit (drop i ds)) ≡ true =
    sym (list_all-append is_ascii_digit (take i ds) (drop i ds)) ∙ ap (list_all is_ascii_digit) (take-append-drop i ds) ∙ h in
    (and_parts (list_all is_ascii_digit (take i ds)) (list_all is_ascii_digit (drop i ds)) e).1

-- what digits are of a unit is within it
share-within : (unit d share : ℕ) → d ≤ 57 → share ≤ unit → (unit * (d - 48) + share) / 10 ≤ unit
share-within unit d share h k =
    let small : d - 48 ≤ 9 = omega arith in
    div-le_of_le-mul 10 (omega (arith, mul-le-mul_left unit small))

-- what the digits from one place earlier on are of a unit
pub share-step : (unit share i : ℕ) (digits : List ℕ) → list_all is_ascii_digit digits ≡ true → i < length digits
    → share ≡ value 10 (drop (i + 1) digits) * unit / 10 ^ length (drop (i + 1) digits) → share ≤ unit
    → ((unit * (get_or digits i 0 - 48) + share) / 10 ≡ value 10 (drop i digits) * unit / 10 ^ length (drop i digits))
    × ((unit * (get_or digits i 0 - 48) + share) / 10 ≤ unit)
share-step unit share i digits h inside e k =
    let d = get_or digits i 0 in
    let ds = drop (i + 1) digits in
    let split : drop i digits ≡ d ∷ ds = drop_more digits i 0 inside in
    let both : list_all is_ascii_digit (d ∷ ds) ≡ true = rw split at (digits-from i digits h) in
    let p = and_parts (is_ascii_digit d) (list_all is_ascii_digit ds) both in
    (rw (split, e) (sym (share-more unit d ds p.0 p.1)), share-within unit d share (digit-is d p.0).1 k)

pub fraction-digits : (bs : List ℕ) → list_all is_ascii_digit (fraction bs) ≡ true
fraction-digits bs = by_point (has_point bs)
  where
    by_point : (t : Bool) → list_all is_ascii_digit (if t then run_of is_ascii_digit (drop 1 (behind_run is_ascii_digit bs)) else []) ≡ true
    by_point true = run-passes is_ascii_digit (drop 1 (behind_run is_ascii_digit bs))
    by_point false = refl

-- ---- cut at a limit

span-cut : (below_zero : Bool) (n : ℕ) → span_kind below_zero n ≡ span_kind below_zero (min n (2 ^ 64))
span-cut true n = grind (arith, nat_tests, common_steps)
span-cut false n = grind (arith, nat_tests, common_steps)

-- a number of nanoseconds that is cut at the limit spells the same
pub cut-kind : (below_zero : Bool) (n : ℕ) (time : Option ℕ) → option_map (λ m. min m (2 ^ 64)) time ≡ Some n
    → elim time [ None ↦ Bad L3 | Some m ↦ span_kind below_zero m ] ≡ span_kind below_zero n
cut-kind below_zero n None h = cc
cut-kind below_zero n (Some m) h = let e : min m (2 ^ 64) ≡ n = cc in span-cut below_zero m ∙ ap (span_kind below_zero) e

pub no-kind : (below_zero : Bool) (time : Option ℕ) → option_map (λ m. min m (2 ^ 64)) time ≡ None
    → elim time [ None ↦ Bad L3 | Some m ↦ span_kind below_zero m ] ≡ Bad L3
no-kind below_zero None h = refl
no-kind below_zero (Some m) h = cc
