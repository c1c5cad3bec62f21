-- Where the longest duration at the front of a text ends: its sign, and a digit behind parts that go on.
use Rattle.std.proofs.Common.{◌≡◌, ℕ, zero, suc, ◌+◌, ◌-◌, ◌<◌, ◌≤◌, Bool, true, false, ◌⊎◌, ◌&&◌, ◌||◌, ◌==◌, List, [], ◌∷◌, ◌++◌, length, take, drop, get_or, is_some, refl, sym, ap, ◌∙◌, arith, inl, inr, if◌then◌else◌, codes, bytes_eq}
use Rattle.std.specs.Char.{is_ascii_digit, is_ascii_alphabetic}
use Rattle.std.specs.List.{list_all, prefix_len}
use Rattle.std.proofs.lemmas.Bool.{and_parts, and_from, or_cases, or_left, or_right, cases_lt, cond-true, cond-false, eqb-true, both_ways, false_from_ne_true, cases_order, eq-eqb}
use Rattle.std.proofs.lemmas.List.{length-append, length-drop, take-append-drop, take_all, take-take, append_assoc, get_or-append-add, length-take-le, get_or-take, get_or-drop, get_or_append_left}
use Rattle.std.proofs.lemmas.List.Sums.{prefix_len-le-length, prefix_len_passes}
use Rattle.std.proofs.lemmas.Slice.Eq.{bytes_eq-Decides}
use Rattle.plc_spelling.specs.Text.{IsGreatest, is_nil, run_of, behind_run}
use Rattle.plc_spelling.specs.Durations.{TimeUnit, units, whole, behind_number, begins_part, behind_part, past_bar, parts, unsigned, time, is_time_to, goes_on, is_duration}
use Rattle.plc_spelling.proofs.DurationNumbers.{behind_at}
use Rattle.plc_spelling.proofs.DurationUnits.{brief, ReadAs, read, nil-is, digit-first, fits, later, alone, before}
use Rattle.plc_spelling.proofs.DurationFronts.{bar-before, no-bar, begins-letter}

-- ---- the last byte of parts

-- what stands behind the number is the end of the bytes
at-end : (y : List ℕ) → (p : List ℕ) × (p ++ behind_at y ≡ y)
at-end [] = ([], refl)
at-end (b ∷ ys) = by_test (b == 46)
  where
    by_test : (t : Bool) → (p : List ℕ) × (p ++ (if t then behind_run is_ascii_digit ys else b ∷ ys) ≡ b ∷ ys)
    by_test true = (b ∷ run_of is_ascii_digit ys, ap (λ z. b ∷ z) (take-append-drop (prefix_len is_ascii_digit ys) ys))
    by_test false = ([], refl)

number-end : (s : List ℕ) → (p : List ℕ) × (p ++ behind_number s ≡ s)
number-end s =
    let y = behind_run is_ascii_digit s in
    let e = at-end y in
    (whole s ++ e.0, append_assoc (whole s) e.0 (behind_number s) ∙ ap (λ z. whole s ++ z) e.1 ∙ take-append-drop (prefix_len is_ascii_digit s) s)

last-of : (p x : List ℕ) → 0 < length x → get_or (p ++ x) (length (p ++ x) - 1) 0 ≡ get_or x (length x - 1) 0
last-of p x some =
    let n : length (p ++ x) - 1 ≡ length p + (length x - 1) = omega (arith, length-append p x) in
    ap (λ k. get_or (p ++ x) k 0) n ∙ get_or-append-add p x (length x - 1) 0

brief-some : (v : TimeUnit) → brief v ≡ true → 0 < length v.letters
brief-some v h = by_case (or_cases (length v.letters == 1) (bytes_eq v.letters (codes "MS")) h)
  where
    by_case : ((length v.letters == 1) ≡ true) ⊎ (bytes_eq v.letters (codes "MS") ≡ true) → 0 < length v.letters
    by_case (inl e) = omega (arith, eqb-true (length v.letters) 1 e)
    by_case (inr e) = omega (arith, ap length ((bytes_eq-Decides v.letters (codes "MS")).0 e))

-- a part that nothing stands behind ends in a letter
part-last : (u : TimeUnit) (first : Bool) (s : List ℕ) → 0 < length u.letters → begins_part u first s ≡ true → behind_part s ≡ []
    → is_ascii_alphabetic (get_or s (length s - 1) 0) ≡ true
part-last u first s some h none =
    let ls = behind_number s in
    let l = begins-letter u first s some h in
    let e = number-end s in
    let last : get_or s (length s - 1) 0 ≡ get_or ls (length ls - 1) 0 =
    ap (λ z. get_or z (length z - 1) 0) (sym e.1) ∙ last-of e.0 ls (omega arith) in
    ap is_ascii_alphabetic last
    ∙ prefix_len_passes is_ascii_alphabetic ls (length ls - 1) 0 (omega (arith, ap length none, length-drop (prefix_len is_ascii_alphabetic ls) ls))

bar-end : (bs : List ℕ) → (p : List ℕ) × (p ++ past_bar bs ≡ bs)
bar-end [] = ([], refl)
bar-end (b ∷ bs) = by_test (b == 95)
  where
    by_test : (t : Bool) → (p : List ℕ) × (p ++ (if t then bs else b ∷ bs) ≡ b ∷ bs)
    by_test true = (b ∷ [], refl)
    by_test false = ([], refl)

letter-last : (us : List TimeUnit) (first : Bool) (s : List ℕ) → list_all brief us ≡ true → is_some (parts us first s) ≡ true
    → is_ascii_alphabetic (get_or s (length s - 1) 0) ≡ true
letter-last [] first s b h = cc
letter-last (u ∷ us) first s b h =
    let all = and_parts (brief u) (list_all brief us) b in
    by_read (brief-some u all.0) (read u us first s h) (letter-last us first s all.1) (letter-last us false (past_bar (behind_part s)) all.1)
  where
    by_read : 0 < length u.letters → ReadAs u us first s
        → (is_some (parts us first s) ≡ true → is_ascii_alphabetic (get_or s (length s - 1) 0) ≡ true)
        → (is_some (parts us false (past_bar (behind_part s))) ≡ true
        → is_ascii_alphabetic (get_or (past_bar (behind_part s)) (length (past_bar (behind_part s)) - 1) 0) ≡ true)
        → is_ascii_alphabetic (get_or s (length s - 1) 0) ≡ true
    by_read some (later n k) more rest = more k
    by_read some (alone n k) more rest = part-last u first s some n (nil-is (behind_part s) k)
    by_read some (before n k p m) more rest =
        let x = past_bar (behind_part s) in
        let a = number-end s in
        let c = bar-end (behind_part s) in
        let run = run_of is_ascii_alphabetic (behind_number s) in
        let front = a.0 ++ (run ++ c.0) in
        let e : front ++ x ≡ s =
        append_assoc a.0 (run ++ c.0) x
        ∙ ap (λ z. a.0 ++ z) (append_assoc run c.0 x ∙ ap (λ z. run ++ z) c.1
        ∙ take-append-drop (prefix_len is_ascii_alphabetic (behind_number s)) (behind_number s))
        ∙ a.1 in
        let digit = digit-first us false x m in
        let within = prefix_len-le-length is_ascii_digit x in
        ap is_ascii_alphabetic (ap (λ z. get_or z (length z - 1) 0) (sym e) ∙ last-of front x (omega arith)) ∙ rest m

-- parts don't end in an underscore
pub no-bar-last : (first : Bool) (s : List ℕ) → is_some (parts units first s) ≡ true → get_or s (length s - 1) 0 ≡ 95 → ⊥
no-bar-last first s h e = both_ways (is_ascii_alphabetic (get_or s (length s - 1) 0)) (ap is_ascii_alphabetic e) (letter-last units first s refl h)

-- ---- the sign

abbrev pub sign_size : List ℕ → ℕ
sign_size t = length t - length (unsigned t)

sign-there : (b : ℕ) (bs : List ℕ) → (b == 45) ≡ true → unsigned (b ∷ bs) ≡ bs
sign-there b bs e = cond-true (b == 45) bs (b ∷ bs) e

no-sign : (b : ℕ) (bs : List ℕ) → (b == 45) ≡ false → unsigned (b ∷ bs) ≡ b ∷ bs
no-sign b bs e = cond-false (b == 45) bs (b ∷ bs) e

sign-append : (front rest : List ℕ) → 0 < length front → unsigned (front ++ rest) ≡ unsigned front ++ rest
sign-append [] rest h = absurd (omega arith)
sign-append (b ∷ bs) rest h = by_test (b == 45)
  where
    by_test : (t : Bool) → (if t then bs ++ rest else b ∷ (bs ++ rest)) ≡ (if t then bs else b ∷ bs) ++ rest
    by_test true = refl
    by_test false = refl

sign-within : (t : List ℕ) → length (unsigned t) ≤ length t
sign-within [] = omega arith
sign-within (b ∷ bs) = by_test (b == 45)
  where
    by_test : (t : Bool) → length (if t then bs else b ∷ bs) ≤ suc (length bs)
    by_test true = omega arith
    by_test false = omega arith

sign-take : (t : List ℕ) (k : ℕ) → 0 < k → unsigned (take (sign_size t + k) t) ≡ take k (unsigned t)
sign-take [] k h = ap unsigned (take_all {A = ℕ} (length {A = ℕ} [] - length (unsigned []) + k) [] (omega arith)) ∙ sym (take_all {A = ℕ} k [] (omega arith))
sign-take (b ∷ bs) zero h = absurd (omega arith)
sign-take (b ∷ bs) (suc k) h = by_test (b == 45) refl
  where
    by_test : (t : Bool) → (b == 45) ≡ t → unsigned (take (suc (length bs) - length (unsigned (b ∷ bs)) + suc k) (b ∷ bs)) ≡ take (suc k) (unsigned (b ∷ bs))
    by_test true e =
        let i = sign-there b bs e in
        let n : suc (length bs) - length (unsigned (b ∷ bs)) + suc k ≡ suc (suc k) = omega (arith, ap length i) in
        ap (λ j. unsigned (take j (b ∷ bs))) n ∙ sign-there b (take (suc k) bs) e ∙ ap (take (suc k)) (sym i)
    by_test false e =
        let i = no-sign b bs e in
        let n : suc (length bs) - length (unsigned (b ∷ bs)) + suc k ≡ suc k = omega (arith, ap length i) in
        ap (λ j. unsigned (take j (b ∷ bs))) n ∙ no-sign b (take k bs) e ∙ ap (take (suc k)) (sym i)

sign-get : (t : List ℕ) (i : ℕ) → get_or t (sign_size t + i) 0 ≡ get_or (unsigned t) i 0
sign-get [] i = refl
sign-get (b ∷ bs) i = by_test (b == 45) refl
  where
    by_test : (t : Bool) → (b == 45) ≡ t → get_or (b ∷ bs) (suc (length bs) - length (unsigned (b ∷ bs)) + i) 0 ≡ get_or (unsigned (b ∷ bs)) i 0
    by_test true e =
        let u = sign-there b bs e in
        let n : suc (length bs) - length (unsigned (b ∷ bs)) + i ≡ suc i = omega (arith, ap length u) in
        ap (λ j. get_or (b ∷ bs) j 0) n ∙ ap (λ z. get_or z i 0) (sym u)
    by_test false e =
        let u = no-sign b bs e in
        let n : suc (length bs) - length (unsigned (b ∷ bs)) + i ≡ i = omega (arith, ap length u) in
        ap (λ j. get_or (b ∷ bs) j 0) n ∙ ap (λ z. get_or z i 0) (sym u)

-- what stands in front of the parts of a front is the sign of its text
sign-front : (front rest t : List ℕ) → 0 < length front → front ++ rest ≡ t
    → (length front ≡ sign_size t + length (unsigned front)) × (unsigned front ++ rest ≡ unsigned t)
sign-front front rest t some e =
    let u = sym (sign-append front rest some) ∙ ap unsigned e in
    let w = sign-within front in
    (omega (arith, ap length u, ap length e, length-append front rest, length-append (unsigned front) rest), u)

-- ---- fronts that are durations

abbrev Parts : List ℕ → ℕ → Type 0
Parts t g = IsGreatest (λ front. is_some (parts units true front)) (unsigned t) g

record Good (t front : List ℕ) (g : ℕ) : Type 0 where
  some : 0 < length (unsigned front)
  most : length (unsigned front) ≤ g
  size : length front ≡ sign_size t + length (unsigned front)

good : (t : List ℕ) (g : ℕ) (front rest : List ℕ) → Parts t g → front ++ rest ≡ t → is_some (time front) ≡ true → Good t front g
good t g front rest p e h =
    let run = prefix_len-le-length is_ascii_digit (unsigned front) in
    let digit = digit-first units true (unsigned front) h in
    let w = sign-within front in
    let s = sign-front front rest t (omega arith) e in
    record { some = omega arith; most = p.most (unsigned front) rest s.1 h; size = s.0 }

-- the front ends in a digit, right behind k bytes of parts or behind an underscore there
abbrev DigitBehind : List ℕ → List ℕ → ℕ → Type 0
DigitBehind t front k =
    ((length front ≡ sign_size t + k + 1) × (is_ascii_digit (get_or (unsigned t) k 0) ≡ true))
    ⊎ ((length front ≡ sign_size t + k + 2) × (get_or (unsigned t) k 0 ≡ 95) × (is_ascii_digit (get_or (unsigned t) (k + 1) 0) ≡ true))

-- where a front has a digit behind k bytes of parts, or an underscore and a digit
record Further (t front : List ℕ) (g : ℕ) : Type 0 where
  k : ℕ
  some : 0 < k
  most : k ≤ g
  digit : DigitBehind t front k

-- the byte of the text at a place of a front
byte-at : (t front rest : List ℕ) (n k : ℕ) → front ++ rest ≡ t → n < length front → n ≡ sign_size t + k → get_or front n 0 ≡ get_or (unsigned t) k 0
byte-at t front rest n k e inside i =
    sym (get_or_append_left front rest 0 n inside) ∙ ap (λ z. get_or z n 0) e ∙ ap (λ j. get_or t j 0) i ∙ sign-get t k

further-by : (t : List ℕ) (g : ℕ) (front rest : List ℕ) → Parts t g → front ++ rest ≡ t → is_ascii_digit (get_or front (length front - 1) 0) ≡ true
    → (is_time_to (length front - 1) front ≡ true) ⊎ ((get_or front (length front - 2) 0 == 95) && is_time_to (length front - 2) front) ≡ true
    → Further t front g
further-by t g front rest p e digit (inl h) =
    let n = length front - 1 in
    let x = take n front in
    let whole : x ++ (drop n front ++ rest) ≡ t = sym (append_assoc x (drop n front) rest) ∙ ap (λ z. z ++ rest) (take-append-drop n front) ∙ e in
    let a = good t g x (drop n front ++ rest) p whole h in
    let size = length-take-le n front (omega arith) in
    let k = length (unsigned x) in
    let w = sign-within x in
    record {
      k = k;
      some = a.some;
      most = a.most;
      digit = inl (omega (arith, a.size), ap is_ascii_digit (sym (byte-at t front rest n k e (omega arith) (omega (arith, a.size)))) ∙ digit);
    }
further-by t g front rest p e digit (inr h) =
    let n = length front - 2 in
    let x = take n front in
    let both = and_parts (get_or front n 0 == 95) (is_time_to n front) h in
    let whole : x ++ (drop n front ++ rest) ≡ t = sym (append_assoc x (drop n front) rest) ∙ ap (λ z. z ++ rest) (take-append-drop n front) ∙ e in
    let a = good t g x (drop n front ++ rest) p whole both.1 in
    let size = length-take-le n front (omega arith) in
    let k = length (unsigned x) in
    let w = sign-within x in
    record {
      k = k;
      some = a.some;
      most = a.most;
      digit = inr (
        omega (arith, a.size),
        sym (byte-at t front rest n k e (omega arith) (omega (arith, a.size))) ∙ eqb-true (get_or front n 0) 95 both.0,
        ap is_ascii_digit (sym (byte-at t front rest (length front - 1) (k + 1) e (omega arith) (omega (arith, a.size)))) ∙ digit,
      );
    }

further : (t : List ℕ) (g : ℕ) (front rest : List ℕ) → Parts t g → front ++ rest ≡ t → goes_on front ≡ true → Further t front g
further t g front rest p e h =
    let near = is_time_to (length front - 1) front in
    let far = (get_or front (length front - 2) 0 == 95) && is_time_to (length front - 2) front in
    let both = and_parts (is_ascii_digit (get_or front (length front - 1) 0)) (near || far) h in
    further-by t g front rest p e both.0 (or_cases near far both.1)

-- ---- where no parts stand

nil-size : (xs : List ℕ) → is_nil xs ≡ true → length xs ≡ 0
nil-size [] h = refl
nil-size (x ∷ xs) h = cc

lacks-size : (front rest t : List ℕ) → front ++ rest ≡ t → is_nil (unsigned front) ≡ true → length front ≤ sign_size t
lacks-size [] rest t e h = omega arith
lacks-size (b ∷ bs) rest t e h = let s = sign-front (b ∷ bs) rest t (omega arith) e in omega (arith, s.0, nil-size (unsigned (b ∷ bs)) h)

sign-alone : (t : List ℕ) → is_nil (unsigned (take (sign_size t) t)) ≡ true
sign-alone [] = refl
sign-alone (b ∷ bs) = by_test (b == 45) refl
  where
    by_test : (t : Bool) → (b == 45) ≡ t → is_nil (unsigned (take (suc (length bs) - length (unsigned (b ∷ bs))) (b ∷ bs))) ≡ true
    by_test true e =
        let n : suc (length bs) - length (unsigned (b ∷ bs)) ≡ 1 = omega (arith, ap length (sign-there b bs e)) in
        ap (λ j. is_nil (unsigned (take j (b ∷ bs)))) n ∙ ap is_nil (sign-there b [] e)
    by_test false e =
        let n : suc (length bs) - length (unsigned (b ∷ bs)) ≡ 0 = omega (arith, ap length (no-sign b bs e)) in
        ap (λ j. is_nil (unsigned (take j (b ∷ bs)))) n

-- the sign alone is the greatest front
pub sign-greatest : (t : List ℕ) → Parts t 0 → IsGreatest is_duration t (sign_size t)
sign-greatest t p = record {
  passed = λ some. let x = take (sign_size t) t in or_right (is_some (time x) || goes_on x) (is_nil (unsigned x)) (sign-alone t);
  most = λ front rest e h. by_form front rest e (or_cases (is_some (time front) || goes_on front) (is_nil (unsigned front)) h);
  within = omega arith;
}
  where
    by_parts : (front rest : List ℕ) → front ++ rest ≡ t → (is_some (time front) ≡ true) ⊎ (goes_on front ≡ true) → length front ≤ sign_size t
    by_parts front rest e (inl h) = let a = good t 0 front rest p e h in absurd (omega (arith, a.some, a.most))
    by_parts front rest e (inr h) = let a = further t 0 front rest p e h in absurd (omega (arith, a.some, a.most))

    by_form : (front rest : List ℕ) → front ++ rest ≡ t → ((is_some (time front) || goes_on front) ≡ true) ⊎ (is_nil (unsigned front) ≡ true)
        → length front ≤ sign_size t
    by_form front rest e (inl h) = by_parts front rest e (or_cases (is_some (time front)) (goes_on front) h)
    by_form front rest e (inr h) = lacks-size front rest t e h

-- ---- a digit behind parts

abbrev pub digit_size : List ℕ → ℕ
digit_size r = if is_ascii_digit (get_or (past_bar r) 0 0) then length r - length (past_bar r) + 1 else 0

abbrev DigitAt : List ℕ → Type 0
DigitAt r = (digit_size r ≡ 1) × (is_ascii_digit (get_or r 0 0) ≡ true)

abbrev BarAt : List ℕ → Type 0
BarAt r = (digit_size r ≡ 2) × (get_or r 0 0 ≡ 95) × (is_ascii_digit (get_or r 1 0) ≡ true)

size-by : (r p : List ℕ) → past_bar r ≡ p → digit_size r ≡ (if is_ascii_digit (get_or p 0 0) then length r - length p + 1 else 0)
size-by r p e = ap (λ z. if is_ascii_digit (get_or z 0 0) then length r - length z + 1 else 0) e

digit-there : (r : List ℕ) → is_ascii_digit (get_or r 0 0) ≡ true → digit_size r ≡ 1
digit-there [] h = cc
digit-there (b ∷ bs) h =
    let none : (b == 95) ≡ false = false_from_ne_true (b == 95) (λ e. both_ways (is_ascii_digit b) (ap is_ascii_digit (eqb-true b 95 e)) h) in
    size-by (b ∷ bs) (b ∷ bs) (no-bar b bs none) ∙ cond-true (is_ascii_digit b) (suc (length bs) - suc (length bs) + 1) 0 h ∙ omega arith

bar-there : (r : List ℕ) → get_or r 0 0 ≡ 95 → is_ascii_digit (get_or r 1 0) ≡ true → digit_size r ≡ 2
bar-there [] h k = absurd (omega arith)
bar-there (b ∷ bs) h k =
    size-by (b ∷ bs) bs (bar-before b bs (eq-eqb b 95 h)) ∙ cond-true (is_ascii_digit (get_or bs 0 0)) (suc (length bs) - length bs + 1) 0 k ∙ omega arith

digit-cases : (r : List ℕ) → (digit_size r ≡ 0) ⊎ (DigitAt r ⊎ BarAt r)
digit-cases [] = inl refl
digit-cases (b ∷ bs) = by_tests (b == 95) (is_ascii_digit b) (is_ascii_digit (get_or bs 0 0)) refl refl refl
  where
    by_tests : (bar digit behind : Bool) → (b == 95) ≡ bar → is_ascii_digit b ≡ digit → is_ascii_digit (get_or bs 0 0) ≡ behind
        → (digit_size (b ∷ bs) ≡ 0) ⊎ (DigitAt (b ∷ bs) ⊎ BarAt (b ∷ bs))
    by_tests true digit true e f g = let i = eqb-true b 95 e in inr (inr (bar-there (b ∷ bs) i g, i, g))
    by_tests true digit false e f g =
        inl (size-by (b ∷ bs) bs (bar-before b bs e) ∙ cond-false (is_ascii_digit (get_or bs 0 0)) (suc (length bs) - length bs + 1) 0 g)
    by_tests false true behind e f g = inr (inl (digit-there (b ∷ bs) f, f))
    by_tests false false behind e f g =
        inl (size-by (b ∷ bs) (b ∷ bs) (no-bar b bs e) ∙ cond-false (is_ascii_digit b) (suc (length bs) - suc (length bs) + 1) 0 f)

time-passes : (x : List ℕ) → is_some (time x) ≡ true → is_duration x ≡ true
time-passes x h = or_left (is_some (time x) || goes_on x) (is_nil (unsigned x)) (or_left (is_some (time x)) (goes_on x) h)

near-passes : (x : List ℕ) → is_ascii_digit (get_or x (length x - 1) 0) ≡ true → is_time_to (length x - 1) x ≡ true → is_duration x ≡ true
near-passes x h k =
    let near = is_time_to (length x - 1) x in
    let far = (get_or x (length x - 2) 0 == 95) && is_time_to (length x - 2) x in
    or_left (is_some (time x) || goes_on x) (is_nil (unsigned x))
    (or_right (is_some (time x)) (goes_on x) (and_from (is_ascii_digit (get_or x (length x - 1) 0)) (near || far) h (or_left near far k)))

far-passes : (x : List ℕ) → is_ascii_digit (get_or x (length x - 1) 0) ≡ true → get_or x (length x - 2) 0 ≡ 95 → is_time_to (length x - 2) x ≡ true
    → is_duration x ≡ true
far-passes x h e k =
    let near = is_time_to (length x - 1) x in
    let bar = get_or x (length x - 2) 0 == 95 in
    let there = is_time_to (length x - 2) x in
    or_left (is_some (time x) || goes_on x) (is_nil (unsigned x))
    (or_right (is_some (time x)) (goes_on x)
    (and_from (is_ascii_digit (get_or x (length x - 1) 0)) (near || (bar && there)) h
    (or_right near (bar && there) (and_from bar there (eq-eqb (get_or x (length x - 2) 0) 95 e) k))))

-- the sign and the parts alone
front-time : (t : List ℕ) (g n : ℕ) → 0 < g → Parts t g → sign_size t + g ≤ n → is_time_to (sign_size t + g) (take n t) ≡ true
front-time t g n some p h =
    ap (λ z. is_some (time z)) (take-take (sign_size t + g) n t h) ∙ ap (λ z. is_some (parts units true z)) (sign-take t g some) ∙ p.passed some

front-byte : (t : List ℕ) (g n i : ℕ) → sign_size t + g + i < n → get_or (take n t) (sign_size t + g + i) 0 ≡ get_or (drop g (unsigned t)) i 0
front-byte t g n i h =
    let e : sign_size t + g + i ≡ sign_size t + (g + i) = omega arith in
    get_or-take n t (sign_size t + g + i) 0 h ∙ ap (λ j. get_or t j 0) e ∙ sign-get t (g + i) ∙ sym (get_or-drop g (unsigned t) i 0)

parts-pass : (t : List ℕ) (g n : ℕ) → 0 < g → Parts t g → n ≡ sign_size t + g + digit_size (drop g (unsigned t)) → n ≤ length t
    → (digit_size (drop g (unsigned t)) ≡ 0) ⊎ (DigitAt (drop g (unsigned t)) ⊎ BarAt (drop g (unsigned t))) → is_duration (take n t) ≡ true
parts-pass t g n some p e within (inl none) =
    let i : n ≡ sign_size t + g = omega arith in
    time-passes (take n t) (ap (λ j. is_some (time (take j t))) i ∙ ap (λ z. is_some (parts units true z)) (sign-take t g some) ∙ p.passed some)
parts-pass t g n some p e within (inr (inl (one, digit))) =
    let size = length-take-le n t within in
    let last : length (take n t) - 1 ≡ sign_size t + g + 0 = omega arith in
    let before : length (take n t) - 1 ≡ sign_size t + g = omega arith in
    near-passes (take n t)
    (ap (λ j. is_ascii_digit (get_or (take n t) j 0)) last ∙ ap is_ascii_digit (front-byte t g n 0 (omega arith)) ∙ digit)
    (ap (λ j. is_time_to j (take n t)) before ∙ front-time t g n some p (omega arith))
parts-pass t g n some p e within (inr (inr (two, bar, digit))) =
    let size = length-take-le n t within in
    let last : length (take n t) - 1 ≡ sign_size t + g + 1 = omega arith in
    let at : length (take n t) - 2 ≡ sign_size t + g + 0 = omega arith in
    let before : length (take n t) - 2 ≡ sign_size t + g = omega arith in
    far-passes (take n t)
    (ap (λ j. is_ascii_digit (get_or (take n t) j 0)) last ∙ ap is_ascii_digit (front-byte t g n 1 (omega arith)) ∙ digit)
    (ap (λ j. get_or (take n t) j 0) at ∙ front-byte t g n 0 (omega arith) ∙ bar)
    (ap (λ j. is_time_to j (take n t)) before ∙ front-time t g n some p (omega arith))

-- no underscore is the last byte of the parts
no-bar-inside : (t : List ℕ) (g k : ℕ) → Parts t g → g ≡ k + 1 → get_or (unsigned t) k 0 ≡ 95 → ⊥
no-bar-inside t g k p e h =
    let x = take g (unsigned t) in
    let size = length-take-le g (unsigned t) p.within in
    let last : length x - 1 ≡ k = omega arith in
    no-bar-last true x (p.passed (omega arith)) (ap (λ j. get_or x j 0) last ∙ get_or-take g (unsigned t) k 0 (omega arith) ∙ h)

-- the bytes behind the parts
behind-byte : (t : List ℕ) (g i j : ℕ) → g + i ≡ j → get_or (drop g (unsigned t)) i 0 ≡ get_or (unsigned t) j 0
behind-byte t g i j e = get_or-drop g (unsigned t) i 0 ∙ ap (λ k. get_or (unsigned t) k 0) e

further-most : (t front : List ℕ) (g k : ℕ) → Parts t g → k ≤ g
    → DigitBehind t front k
    → (k ≡ g) ⊎ ((k < g) ⊎ (g < k)) → length front ≤ sign_size t + g + digit_size (drop g (unsigned t))
further-most t front g k p most (inl (size, digit)) (inl e) =
    let d = digit-there (drop g (unsigned t)) (ap is_ascii_digit (behind-byte t g 0 k (omega arith)) ∙ digit) in
    omega arith
further-most t front g k p most (inr (size, bar, digit)) (inl e) =
    let d = bar-there (drop g (unsigned t)) (behind-byte t g 0 k (omega arith) ∙ bar) (ap is_ascii_digit (behind-byte t g 1 (k + 1) (omega arith)) ∙ digit) in
    omega arith
further-most t front g k p most (inl (size, digit)) (inr (inl l)) = omega arith
further-most t front g k p most (inr (size, bar, digit)) (inr (inl l)) = by_place (cases_lt (k + 1) g)
  where
    by_place : (k + 1 < g) ⊎ (g ≤ k + 1) → length front ≤ sign_size t + g + digit_size (drop g (unsigned t))
    by_place (inl far) = omega arith
    by_place (inr near) = absurd (no-bar-inside t g k p (omega arith) bar)
further-most t front g k p most digit (inr (inr l)) = absurd (omega arith)

-- parts, and a digit behind them where there is one, are the greatest front
pub parts-greatest : (t : List ℕ) (g : ℕ) → 0 < g → Parts t g → digit_size (drop g (unsigned t)) ≤ length (drop g (unsigned t))
    → IsGreatest is_duration t (sign_size t + g + digit_size (drop g (unsigned t)))
parts-greatest t g some p fits = record {
  passed = λ _. parts-pass t g (sign_size t + g + digit_size (drop g (unsigned t))) some p refl within (digit-cases (drop g (unsigned t)));
  most = λ front rest e h. by_form front rest e (or_cases (is_some (time front) || goes_on front) (is_nil (unsigned front)) h);
  within = within;
}
  where
    within : sign_size t + g + digit_size (drop g (unsigned t)) ≤ length t
    within = omega (arith, p.within, length-drop g (unsigned t), sign-within t)

    by_parts : (front rest : List ℕ) → front ++ rest ≡ t → (is_some (time front) ≡ true) ⊎ (goes_on front ≡ true)
        → length front ≤ sign_size t + g + digit_size (drop g (unsigned t))
    by_parts front rest e (inl h) = let a = good t g front rest p e h in omega (arith, a.size, a.most)
    by_parts front rest e (inr h) = let a = further t g front rest p e h in further-most t front g a.k p a.most a.digit (cases_order a.k g)

    by_form : (front rest : List ℕ) → front ++ rest ≡ t → ((is_some (time front) || goes_on front) ≡ true) ⊎ (is_nil (unsigned front) ≡ true)
        → length front ≤ sign_size t + g + digit_size (drop g (unsigned t))
    by_form front rest e (inl h) = by_parts front rest e (or_cases (is_some (time front)) (goes_on front) h)
    by_form front rest e (inr h) = let a = lacks-size front rest t e h in omega arith
