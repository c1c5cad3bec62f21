-- Parts of a duration and their units.
use Rattle.std.proofs.Common.{◌≡◌, ℕ, zero, suc, ◌+◌, ◌<◌, ◌≤◌, Bool, true, false, ◌⊎◌, ◌&&◌, ◌||◌, ◌==◌, not, nat_lt, List, [], ◌∷◌, ◌++◌, length, take, drop, Option, Some, None, is_some, refl, sym, ap, subst, ◌∙◌, arith, map, inl, inr, if◌then◌else◌, codes, bytes_eq}
use Rattle.std.specs.Char.{is_ascii_digit, is_ascii_alphabetic, to_ascii_lowercase}
use Rattle.std.specs.List.{list_all, list_any, prefix_len}
use Rattle.std.specs.Option.{option_map}
use Rattle.std.specs.Str.{str_eq_ignore_ascii_case}
use Rattle.std.proofs.lemmas.Bool.{and_parts, and_from, or_cases, or_left, or_right, eqb-true, false_from_ne_true}
use Rattle.std.proofs.lemmas.Bool.Decides.{nat_tests}
use Rattle.std.proofs.lemmas.Grind.{common_steps}
use Rattle.std.proofs.lemmas.List.{length-take, drop_all}
use Rattle.std.proofs.lemmas.List.Sums.{prefix_len-le-length}
use Rattle.std.proofs.lemmas.List.Folds.{length-prefix_len}
use Rattle.std.proofs.lemmas.Slice.Eq.{bytes_eq-Decides}
use Rattle.plc_spelling.specs.Text.{begins, is_nil, run_of, behind_run}
use Rattle.plc_spelling.specs.Durations.{TimeUnit, units, whole, has_point, fraction, behind_number, has_number, begins_part, behind_part, nanoseconds, past_bar, parts}
use Rattle.plc_spelling.specs.Integers.{value}
use Rattle.plc_spelling.proofs.Runs.{same_length}
use Rattle.plc_spelling.proofs.DurationNumbers.{run-ends, behind-stays, extends}

-- ---- a part at the front of a text that goes on

abbrev pub limited : TimeUnit → Bool → List ℕ → Bool
limited u first w = first || nat_lt (value 10 w) u.below

pub record Begins (u : TimeUnit) (first : Bool) (s : List ℕ) : Type 0 where
  pub number : has_number s ≡ true
  pub letters : str_eq_ignore_ascii_case u.letters (run_of is_ascii_alphabetic (behind_number s)) ≡ true
  pub limit : limited u first (whole s) ≡ true

pub begins-parts : (u : TimeUnit) (first : Bool) (s : List ℕ) → begins_part u first s ≡ true → Begins u first s
begins-parts u first s h =
    let n = has_number s in
    let l = str_eq_ignore_ascii_case u.letters (run_of is_ascii_alphabetic (behind_number s)) in
    let both = and_parts (n && l) (limited u first (whole s)) h in
    let front = and_parts n l both.0 in
    record { number = front.0; letters = front.1; limit = both.1 }

pub begins-from : (u : TimeUnit) (first : Bool) (s : List ℕ) → Begins u first s → begins_part u first s ≡ true
begins-from u first s b =
    let n = has_number s in
    let l = str_eq_ignore_ascii_case u.letters (run_of is_ascii_alphabetic (behind_number s)) in
    and_from (n && l) (limited u first (whole s)) (and_from n l b.number b.letters) b.limit

-- whether there is a number is the same where the digits are
pub number-same : (s t : List ℕ) → whole t ≡ whole s → has_point t ≡ has_point s → fraction t ≡ fraction s → has_number t ≡ has_number s
number-same s t d p f = ap3 (whole t) (whole s) (has_point t) (has_point s) (fraction t) (fraction s) d p f
  where
    ap3 : (w x : List ℕ) (p q : Bool) (f g : List ℕ) → w ≡ x → p ≡ q → f ≡ g → (not (is_nil w) && not (p && is_nil f)) ≡ (not (is_nil x) && not (q && is_nil g))
    ap3 w x p q f g a b c = cc

-- a part whose letters are followed by no letter
pub record Followed (u : TimeUnit) (first : Bool) (s r : List ℕ) : Type 0 where
  pub begins_too : begins_part u first (s ++ r) ≡ true
  pub behind : behind_part (s ++ r) ≡ behind_part s ++ r
  pub point : has_point (s ++ r) ≡ has_point s

pub followed : (u : TimeUnit) (first : Bool) (s r : List ℕ) → 0 < length u.letters → begins_part u first s ≡ true
    → prefix_len is_ascii_alphabetic r ≡ 0 → Followed u first s r
followed u first s r some h none =
    let b = begins-parts u first s h in
    let ls = behind_number s in
    let left : 0 < length ls =
    omega (
      arith,
      same_length u.letters (run_of is_ascii_alphabetic ls) b.letters,
      length-prefix_len is_ascii_alphabetic ls,
      prefix_len-le-length is_ascii_alphabetic ls,
    ) in
    let x = extends s r left in
    let e = behind-stays is_ascii_alphabetic ls r (run-ends is_ascii_alphabetic ls r none) in
    record {
      begins_too = begins-from u first (s ++ r) (record {
        number = number-same s (s ++ r) x.digits x.point x.fraction_is ∙ b.number;
        letters =
            ap (λ z. str_eq_ignore_ascii_case u.letters (run_of is_ascii_alphabetic z)) x.behind ∙ ap (str_eq_ignore_ascii_case u.letters) e.0 ∙ b.letters;
        limit = ap (limited u first) x.digits ∙ b.limit;
      });
      behind = ap (behind_run is_ascii_alphabetic) x.behind ∙ e.1;
      point = x.point;
    }

-- ---- the letters of a unit

abbrev pub same : List ℕ → List ℕ → Bool
same u letters = str_eq_ignore_ascii_case u letters

lower-same : (u letters : List ℕ) → same u letters ≡ true → map to_ascii_lowercase u ≡ map to_ascii_lowercase letters
lower-same u letters h = (bytes_eq-Decides (map to_ascii_lowercase u) (map to_ascii_lowercase letters)).0 h

letter-m : (b : ℕ) → to_ascii_lowercase b ≡ 109 → is_ascii_alphabetic b ≡ true
letter-m b h = grind (arith, nat_tests, common_steps)

letter-s : (b : ℕ) → to_ascii_lowercase b ≡ 115 → is_ascii_alphabetic b ≡ true
letter-s b h = grind (arith, nat_tests, common_steps)

-- the letters of a millisecond
pub record IsMs (letters : List ℕ) : Type 0 where
  pub m : ℕ
  pub s : ℕ
  pub are : letters ≡ m ∷ s ∷ []
  pub m_is : to_ascii_lowercase m ≡ 109
  pub s_is : to_ascii_lowercase s ≡ 115

pub is-ms : (letters : List ℕ) → same (codes "MS") letters ≡ true → IsMs letters
is-ms [] h = cc (lower-same (codes "MS") [] h)
is-ms (m ∷ []) h = let e : ◌≡◌ {A = List ℕ} (109 ∷ 115 ∷ []) (to_ascii_lowercase m ∷ []) = lower-same (codes "MS") (m ∷ []) h in cc
is-ms (m ∷ s ∷ []) h =
    let e : ◌≡◌ {A = List ℕ} (109 ∷ 115 ∷ []) (to_ascii_lowercase m ∷ to_ascii_lowercase s ∷ []) = lower-same (codes "MS") (m ∷ s ∷ []) h in
    record { m = m; s = s; are = refl; m_is = cc; s_is = cc }
is-ms (m ∷ s ∷ b ∷ bs) h =
    let e : ◌≡◌ {A = List ℕ} (109 ∷ 115 ∷ []) (to_ascii_lowercase m ∷ to_ascii_lowercase s ∷ to_ascii_lowercase b ∷ map to_ascii_lowercase bs) =
    lower-same (codes "MS") (m ∷ s ∷ b ∷ bs) h in
    cc

-- how many letters a unit has that may stand there
abbrev pub unit_size : List ℕ → ℕ
unit_size letters = if begins (codes "MS") letters then 2 else 1

-- the letters of a unit alone are a run
pub run-ms : (m s : ℕ) (r : List ℕ) → to_ascii_lowercase m ≡ 109 → to_ascii_lowercase s ≡ 115 → 2 ≤ prefix_len is_ascii_alphabetic (m ∷ s ∷ r)
run-ms m s r h k = rw (letter-m m h, letter-s s k) (omega arith)

pub unit-run : (letters : List ℕ) → 0 < prefix_len is_ascii_alphabetic (take (unit_size letters) letters)
    → prefix_len is_ascii_alphabetic (take (unit_size letters) letters) ≡ length (take (unit_size letters) letters)
unit-run letters = by_test (begins (codes "MS") letters) refl
  where
    by_test : (t : Bool) → begins (codes "MS") letters ≡ t → 0 < prefix_len is_ascii_alphabetic (take (if t then 2 else 1) letters)
        → prefix_len is_ascii_alphabetic (take (if t then 2 else 1) letters) ≡ length (take (if t then 2 else 1) letters)
    by_test true e h =
        let x = is-ms (take 2 letters) e in
        let n = prefix_len-le-length is_ascii_alphabetic (take 2 letters) in
        let two = subst (λ z. 2 ≤ prefix_len is_ascii_alphabetic z) (sym x.are) (run-ms x.m x.s [] x.m_is x.s_is) in
        omega (arith, length-take 2 letters)
    by_test false e h =
        let n = prefix_len-le-length is_ascii_alphabetic (take 1 letters) in
        omega (arith, length-take 1 letters)

-- ---- the units

-- letters of one of these units
abbrev pub among : List TimeUnit → List ℕ → Bool
among us letters = list_any (λ v. same v.letters letters) us

abbrev pub brief : TimeUnit → Bool
brief v = (length v.letters == 1) || bytes_eq v.letters (codes "MS")

-- What is so of a unit and the units behind it: it has letters, none of those has the same letters, none stands behind `ms`, the letters of each are
-- one letter or `ms`, and where `ms` begins with the letters of this unit, there is a part in `ms`.
pub record Fits (u : TimeUnit) (us : List TimeUnit) : Type 0 where
  pub some : 0 < length u.letters
  pub apart : (letters : List ℕ) → same u.letters letters ≡ true → among us letters ≡ false
  pub last : (letters : List ℕ) → same u.letters letters ≡ true → same (codes "MS") letters ≡ true → us ≡ []
  pub short : list_all brief (u ∷ us) ≡ true
  pub longer : (first : Bool) (s : List ℕ) (b c : ℕ) → begins_part u first s ≡ true → behind_number s ≡ b ∷ [] → same (codes "MS") (b ∷ c ∷ []) ≡ true
      → is_some (parts us first (s ++ c ∷ [])) ≡ true

apart-from : (u : TimeUnit) (us : List TimeUnit)
    → list_any (λ v. bytes_eq (map to_ascii_lowercase v.letters) (map to_ascii_lowercase u.letters)) us ≡ false → (letters : List ℕ)
    → same u.letters letters ≡ true → among us letters ≡ false
apart-from u us h letters k = subst (λ x. list_any (λ v. bytes_eq (map to_ascii_lowercase v.letters) x) us ≡ false) (lower-same u.letters letters k) h

pub short-letters : (us : List TimeUnit) (letters : List ℕ) → list_all brief us ≡ true → among us letters ≡ true
    → (length letters ≡ 1) ⊎ (same (codes "MS") letters ≡ true)
short-letters [] letters h k = cc
short-letters (v ∷ us) letters h k =
    let all = and_parts (brief v) (list_all brief us) h in
    by_first (or_cases (same v.letters letters) (among us letters) k) (or_cases (length v.letters == 1) (bytes_eq v.letters (codes "MS")) all.0)
    (short-letters us letters all.1)
  where
    by_first : (same v.letters letters ≡ true) ⊎ (among us letters ≡ true)
        → ((length v.letters == 1) ≡ true) ⊎ (bytes_eq v.letters (codes "MS") ≡ true)
        → (among us letters ≡ true → (length letters ≡ 1) ⊎ (same (codes "MS") letters ≡ true))
        → (length letters ≡ 1) ⊎ (same (codes "MS") letters ≡ true)
    by_first (inr m) b more = more m
    by_first (inl m) (inl b) more = inl (sym (same_length v.letters letters m) ∙ eqb-true (length v.letters) 1 b)
    by_first (inl m) (inr b) more = inr (subst (λ x. same x letters ≡ true) ((bytes_eq-Decides v.letters (codes "MS")).0 b) m)

-- no other unit is in conflict with a unit that doesn't begin `ms`
no-longer : (u : TimeUnit) (us : List TimeUnit) → ((b c : ℕ) → same u.letters (b ∷ []) ≡ true → same (codes "MS") (b ∷ c ∷ []) ≡ true → ⊥)
    → (first : Bool) (s : List ℕ) (b c : ℕ) → begins_part u first s ≡ true → behind_number s ≡ b ∷ [] → same (codes "MS") (b ∷ c ∷ []) ≡ true
    → is_some (parts us first (s ++ c ∷ [])) ≡ true
no-longer u us never first s b c h e k =
    let p = begins-parts u first s h in
    let l = subst (λ x. same u.letters (run_of is_ascii_alphabetic x) ≡ true) e p.letters in
    let x = is-ms (b ∷ c ∷ []) k in
    let m : b ≡ x.m = let a = x.are in cc in
    let letter : is_ascii_alphabetic b ≡ true = letter-m b (ap to_ascii_lowercase m ∙ x.m_is) in
    let one : run_of is_ascii_alphabetic (b ∷ []) ≡ b ∷ [] = rw letter refl in
    absurd (never b c (subst (λ x. same u.letters x ≡ true) one l) k)

-- ---- parts, taken apart

abbrev chosen : Bool → Bool → Bool → ℕ → Option ℕ → Option ℕ → Option ℕ
chosen begins ends point here more rest = if begins then (if ends then Some here else (if point then None else option_map (λ n. here + n) more)) else rest

-- where the first part of some bytes is of this unit, what stands behind it
pub data Read (begins ends point : Bool) (more rest : Option ℕ) : Type 0 where
  later : begins ≡ false → is_some rest ≡ true → Read begins ends point more rest
  alone : begins ≡ true → ends ≡ true → Read begins ends point more rest
  before : begins ≡ true → ends ≡ false → point ≡ false → is_some more ≡ true → Read begins ends point more rest

read-parts : (begins ends point : Bool) (here : ℕ) (more rest : Option ℕ) → is_some (chosen begins ends point here more rest) ≡ true
    → Read begins ends point more rest
read-parts false ends point here more rest h = later refl h
read-parts true true point here more rest h = alone refl refl
read-parts true false true here more rest h = cc
read-parts true false false here None rest h = cc
read-parts true false false here (Some n) rest h = before refl refl refl refl

parts-read : (begins ends point : Bool) (here : ℕ) (more rest : Option ℕ) → Read begins ends point more rest
    → is_some (chosen begins ends point here more rest) ≡ true
parts-read false ends point here more rest (later b h) = h
parts-read true ends point here more rest (later b h) = cc
parts-read true true point here more rest (alone b e) = refl
parts-read false ends point here more rest (alone b e) = cc
parts-read true false point here more rest (alone b e) = cc
parts-read true false false here (Some n) rest (before b e p h) = refl
parts-read true false false here None rest (before b e p h) = cc
parts-read true false true here more rest (before b e p h) = cc
parts-read true true point here more rest (before b e p h) = cc
parts-read false ends point here more rest (before b e p h) = cc

abbrev pub ReadAs : TimeUnit → List TimeUnit → Bool → List ℕ → Type 0
ReadAs u us first s = Read (begins_part u first s) (is_nil (behind_part s)) (has_point s) (parts us false (past_bar (behind_part s))) (parts us first s)

pub read : (u : TimeUnit) (us : List TimeUnit) (first : Bool) (s : List ℕ) → is_some (parts (u ∷ us) first s) ≡ true → ReadAs u us first s
read u us first s h =
    read-parts (begins_part u first s) (is_nil (behind_part s)) (has_point s) (nanoseconds u s) (parts us false (past_bar (behind_part s))) (parts us first s) h

pub from-read : (u : TimeUnit) (us : List TimeUnit) (first : Bool) (s : List ℕ) → ReadAs u us first s → is_some (parts (u ∷ us) first s) ≡ true
from-read u us first s h =
    parts-read (begins_part u first s) (is_nil (behind_part s)) (has_point s) (nanoseconds u s) (parts us false (past_bar (behind_part s))) (parts us first s) h

pub nil-is : (xs : List ℕ) → is_nil xs ≡ true → xs ≡ []
nil-is [] h = refl
nil-is (x ∷ xs) h = cc

pub not-nil : (xs : List ℕ) → is_nil xs ≡ false → 0 < length xs
not-nil [] h = cc
not-nil (x ∷ xs) h = omega arith

pub some-not-nil : (xs : List ℕ) → 0 < length xs → is_nil xs ≡ false
some-not-nil [] h = absurd (omega arith)
some-not-nil (x ∷ xs) h = refl

not-nil-left : (w : List ℕ) (p : Bool) (f : List ℕ) → (not (is_nil w) && not (p && is_nil f)) ≡ true → 0 < length w
not-nil-left [] p f h = cc
not-nil-left (x ∷ w) p f h = omega arith

-- a part begins with a digit
begins-digit : (u : TimeUnit) (first : Bool) (s : List ℕ) → begins_part u first s ≡ true → 0 < prefix_len is_ascii_digit s
begins-digit u first s h =
    let b = begins-parts u first s h in
    omega (arith, not-nil-left (whole s) (has_point s) (fraction s) b.number, length-prefix_len is_ascii_digit s)

pub digit-first : (us : List TimeUnit) (first : Bool) (s : List ℕ) → is_some (parts us first s) ≡ true → 0 < prefix_len is_ascii_digit s
digit-first [] first s h = cc
digit-first (u ∷ us) first s h = by_read (read u us first s h) (digit-first us first s)
  where
    by_read : ReadAs u us first s → (is_some (parts us first s) ≡ true → 0 < prefix_len is_ascii_digit s) → 0 < prefix_len is_ascii_digit s
    by_read (later b k) more = more k
    by_read (alone b e) more = begins-digit u first s b
    by_read (before b e p k) more = begins-digit u first s b

-- the letters behind the first number are of one of the units
pub told : (us : List TimeUnit) (first : Bool) (s : List ℕ) → is_some (parts us first s) ≡ true → among us (run_of is_ascii_alphabetic (behind_number s)) ≡ true
told [] first s h = cc
told (u ∷ us) first s h = by_read (read u us first s h) (told us first s)
  where
    here : begins_part u first s ≡ true → among (u ∷ us) (run_of is_ascii_alphabetic (behind_number s)) ≡ true
    here b = or_left _ (among us (run_of is_ascii_alphabetic (behind_number s))) (begins-parts u first s b).letters

    by_read : ReadAs u us first s → (is_some (parts us first s) ≡ true → among us (run_of is_ascii_alphabetic (behind_number s)) ≡ true)
        → among (u ∷ us) (run_of is_ascii_alphabetic (behind_number s)) ≡ true
    by_read (later b k) more = or_right (same u.letters (run_of is_ascii_alphabetic (behind_number s))) _ (more k)
    by_read (alone b e) more = here b
    by_read (before b e p k) more = here b

-- ---- the five units

abbrev day : TimeUnit
day = record { letters = codes "D"; nanoseconds = 86400000000000; below = 0 }

abbrev hour : TimeUnit
hour = record { letters = codes "H"; nanoseconds = 3600000000000; below = 24 }

abbrev minute : TimeUnit
minute = record { letters = codes "M"; nanoseconds = 60000000000; below = 60 }

abbrev second : TimeUnit
second = record { letters = codes "S"; nanoseconds = 1000000000; below = 60 }

abbrev millisecond : TimeUnit
millisecond = record { letters = codes "MS"; nanoseconds = 1000000; below = 1000 }

-- one letter is no two
one-not-two : (u letters : List ℕ) → length u ≡ 1 → same u letters ≡ true → same (codes "MS") letters ≡ true → ⊥
one-not-two u letters e h k = omega (arith, same_length u letters h, same_length (codes "MS") letters k)

first-letter : (w b c : ℕ) → same (w ∷ []) (b ∷ []) ≡ true → same (codes "MS") (b ∷ c ∷ []) ≡ true → to_ascii_lowercase w ≡ 109
first-letter w b c h k =
    let e : ◌≡◌ {A = List ℕ} (to_ascii_lowercase w ∷ []) (to_ascii_lowercase b ∷ []) = lower-same (w ∷ []) (b ∷ []) h in
    let f : ◌≡◌ {A = List ℕ} (109 ∷ 115 ∷ []) (to_ascii_lowercase b ∷ to_ascii_lowercase c ∷ []) = lower-same (codes "MS") (b ∷ c ∷ []) k in
    cc

fits-day : Fits day (hour ∷ minute ∷ second ∷ millisecond ∷ [])
fits-day = record {
  some = omega arith;
  apart = apart-from day (hour ∷ minute ∷ second ∷ millisecond ∷ []) refl;
  last = λ letters h k. absurd (one-not-two (codes "D") letters refl h k);
  short = refl;
  longer = no-longer day (hour ∷ minute ∷ second ∷ millisecond ∷ []) (λ b c h k. let e : 100 ≡ 109 = first-letter 68 b c h k in omega arith);
}

fits-hour : Fits hour (minute ∷ second ∷ millisecond ∷ [])
fits-hour = record {
  some = omega arith;
  apart = apart-from hour (minute ∷ second ∷ millisecond ∷ []) refl;
  last = λ letters h k. absurd (one-not-two (codes "H") letters refl h k);
  short = refl;
  longer = no-longer hour (minute ∷ second ∷ millisecond ∷ []) (λ b c h k. let e : 104 ≡ 109 = first-letter 72 b c h k in omega arith);
}

fits-second : Fits second (millisecond ∷ [])
fits-second = record {
  some = omega arith;
  apart = apart-from second (millisecond ∷ []) refl;
  last = λ letters h k. absurd (one-not-two (codes "S") letters refl h k);
  short = refl;
  longer = no-longer second (millisecond ∷ []) (λ b c h k. let e : 115 ≡ 109 = first-letter 83 b c h k in omega arith);
}

fits-millisecond : Fits millisecond []
fits-millisecond = record {
  some = omega arith;
  apart = apart-from millisecond [] refl;
  last = λ letters h k. refl;
  short = refl;
  longer = no-longer millisecond [] (λ b c h k. omega (arith, same_length (codes "MS") (b ∷ []) h));
}

limit-grows : (first : Bool) (n : ℕ) → (first || nat_lt n 60) ≡ true → (first || nat_lt n 1000) ≡ true
limit-grows true n h = refl
limit-grows false n h = grind (arith, nat_tests)

-- where `ms` stands and not `m`, there is a part in milliseconds
milliseconds-too : (first : Bool) (s : List ℕ) (b c : ℕ) → begins_part minute first s ≡ true → behind_number s ≡ b ∷ []
    → same (codes "MS") (b ∷ c ∷ []) ≡ true → is_some (parts (second ∷ millisecond ∷ []) first (s ++ c ∷ [])) ≡ true
milliseconds-too first s b c h e k =
    let p = begins-parts minute first s h in
    let t = s ++ c ∷ [] in
    let x = extends s (c ∷ []) (omega (arith, ap length e)) in
    let letters : behind_number t ≡ b ∷ c ∷ [] = x.behind ∙ ap (λ z. z ++ c ∷ []) e in
    let ms = is-ms (b ∷ c ∷ []) k in
    let first_is : b ≡ ms.m = let a = ms.are in cc in
    let second_is : c ≡ ms.s = let a = ms.are in cc in
    let b_letter : is_ascii_alphabetic b ≡ true = letter-m b (ap to_ascii_lowercase first_is ∙ ms.m_is) in
    let c_letter : is_ascii_alphabetic c ≡ true = letter-s c (ap to_ascii_lowercase second_is ∙ ms.s_is) in
    let both : run_of is_ascii_alphabetic (b ∷ c ∷ []) ≡ b ∷ c ∷ [] = rw (b_letter, c_letter) refl in
    let none : behind_run is_ascii_alphabetic (b ∷ c ∷ []) ≡ [] = rw (b_letter, c_letter) refl in
    let run : run_of is_ascii_alphabetic (behind_number t) ≡ b ∷ c ∷ [] = ap (run_of is_ascii_alphabetic) letters ∙ both in
    let ends : is_nil (behind_part t) ≡ true = ap (λ z. is_nil (behind_run is_ascii_alphabetic z)) letters ∙ ap is_nil none in
    let no_second : begins_part second first t ≡ false =
    false_from_ne_true (begins_part second first t)
    (λ q. omega (arith, same_length (codes "S") (run_of is_ascii_alphabetic (behind_number t)) (begins-parts second first t q).letters, ap length run)) in
    let yes : begins_part millisecond first t ≡ true = begins-from millisecond first t (record {
      number = number-same s t x.digits x.point x.fraction_is ∙ p.number;
      letters = ap (same (codes "MS")) run ∙ k;
      limit = limit-grows first (value 10 (whole t)) (ap (limited minute first) x.digits ∙ p.limit);
    }) in
    from-read second (millisecond ∷ []) first t (later no_second (from-read millisecond [] first t (alone yes ends)))

fits-minute : Fits minute (second ∷ millisecond ∷ [])
fits-minute = record {
  some = omega arith;
  apart = apart-from minute (second ∷ millisecond ∷ []) refl;
  last = λ letters h k. absurd (one-not-two (codes "M") letters refl h k);
  short = refl;
  longer = milliseconds-too;
}

fits-at : (v : TimeUnit) (vs : List TimeUnit) (u : TimeUnit) (us : List TimeUnit) → u ∷ us ≡ v ∷ vs → Fits v vs → Fits u us
fits-at v vs u us e f =
    let a : v ≡ u = cc in
    let b : vs ≡ us = cc in
    subst (λ x. Fits u x) b (subst (λ x. Fits x vs) a f)

-- each unit and those behind it
pub fits : (k : ℕ) (u : TimeUnit) (us : List TimeUnit) → u ∷ us ≡ drop k units → Fits u us
fits zero u us e = fits-at _ _ u us e fits-day
fits (suc zero) u us e = fits-at _ _ u us e fits-hour
fits (suc (suc zero)) u us e = fits-at _ _ u us e fits-minute
fits (suc (suc (suc zero))) u us e = fits-at _ _ u us e fits-second
fits (suc (suc (suc (suc zero)))) u us e = fits-at _ _ u us e fits-millisecond
fits (suc (suc (suc (suc (suc k))))) u us e = let none : drop k [] ≡ [] = drop_all {X = TimeUnit} k [] (omega arith) in cc
