-- The longest front of a text that is parts of a duration.
use Rattle.std.proofs.Common.{◌≡◌, ℕ, zero, suc, ◌+◌, ◌-◌, ◌<◌, ◌≤◌, Bool, true, false, ◌⊎◌, ◌==◌, List, [], ◌∷◌, ◌++◌, length, take, drop, get_or, is_some, refl, sym, ap, subst, ◌∙◌, arith, min, inl, inr, if◌then◌else◌, codes}
use Rattle.std.specs.Char.{is_ascii_digit, is_ascii_alphabetic, to_ascii_lowercase}
use Rattle.std.specs.List.{list_all, prefix_len}
use Rattle.std.proofs.lemmas.Bool.{and_parts, or_left, cases_lt, cond-true, cond-false, eqb-true, both_ways, false_from_ne_true}
use Rattle.std.proofs.lemmas.Bool.Decides.{nat_tests}
use Rattle.std.proofs.lemmas.Grind.{common_steps}
use Rattle.std.proofs.lemmas.List.{length-append, length-drop, length-take, take-append-le, take-append-drop, take_all, drop_all, drop_at, take_min, append_assoc, drop-drop}
use Rattle.std.proofs.lemmas.List.Sums.{prefix_len-le-length}
use Rattle.std.proofs.lemmas.List.Folds.{length-prefix_len}
use Rattle.plc_spelling.specs.Text.{IsGreatest, begins, is_nil, run_of, behind_run}
use Rattle.plc_spelling.specs.Durations.{TimeUnit, units, whole, has_point, behind_number, has_number, begins_part, behind_part, past_bar, parts}
use Rattle.plc_spelling.proofs.Runs.{run-passes, run-whole, same_length}
use Rattle.plc_spelling.proofs.DurationNumbers.{extends, number-within, cuts}
use Rattle.plc_spelling.proofs.DurationUnits.{limited, begins-parts, begins-from, number-same, followed, same, is-ms, unit_size, run-ms, unit-run, among, brief, Fits, short-letters, ReadAs, read, from-read, nil-is, not-nil, some-not-nil, digit-first, told, fits, later, alone, before}

-- ---- the part that a text begins with

abbrev pub part_size : List ℕ → ℕ
part_size t = min (length t - length (behind_number t) + unit_size (behind_number t)) (length t)

abbrev cut : List ℕ → List ℕ
cut t = take (part_size t) t

unit-size-is : (letters : List ℕ) → (1 ≤ unit_size letters) × (unit_size letters ≤ 2)
unit-size-is letters = by_test (begins (codes "MS") letters)
  where
    by_test : (t : Bool) → (1 ≤ (if t then 2 else 1)) × ((if t then 2 else 1) ≤ 2)
    by_test true = (omega arith, omega arith)
    by_test false = (omega arith, omega arith)

-- a part has letters
pub begins-letter : (u : TimeUnit) (first : Bool) (s : List ℕ) → 0 < length u.letters → begins_part u first s ≡ true
    → (length u.letters ≡ prefix_len is_ascii_alphabetic (behind_number s)) × (0 < prefix_len is_ascii_alphabetic (behind_number s))
    × (prefix_len is_ascii_alphabetic (behind_number s) ≤ length (behind_number s))
begins-letter u first s some h =
    let ls = behind_number s in
    let e = same_length u.letters (run_of is_ascii_alphabetic ls) (begins-parts u first s h).letters in
    let n = length-prefix_len is_ascii_alphabetic ls in
    (omega arith, omega arith, prefix_len-le-length is_ascii_alphabetic ls)

-- the cut part has the letters of its unit and nothing behind them
record Cut (u : TimeUnit) (t : List ℕ) : Type 0 where
  run : run_of is_ascii_alphabetic (behind_number (cut t)) ≡ take (unit_size (behind_number t)) (behind_number t)
  ends : behind_part (cut t) ≡ []

cut-is : (u : TimeUnit) (first : Bool) (t : List ℕ) → 0 < length u.letters → begins_part u first (cut t) ≡ true → Cut u t
cut-is u first t some h = by_case (cases_lt 0 (length (behind_number t)))
  where
    letter : 0 < length (behind_number (cut t))
    letter = let l = begins-letter u first (cut t) some h in omega arith

    by_case : (0 < length (behind_number t)) ⊎ (length (behind_number t) ≤ 0) → Cut u t
    by_case (inl left) =
        let ls = behind_number t in
        let n = unit_size ls in
        let size = unit-size-is ls in
        let w = number-within t in
        let c = cuts (part_size t) t (omega arith) (omega arith) in
        let same_size : part_size t - (length t - length ls) ≡ min n (length ls) = omega arith in
        let letters : behind_number (cut t) ≡ take n ls = c.behind ∙ ap (λ k. take k ls) same_size ∙ take_min n ls in
        let l = begins-letter u first (cut t) some h in
        let some_run : 0 < prefix_len is_ascii_alphabetic (take n ls) = subst (λ z. 0 < prefix_len is_ascii_alphabetic z) letters l.1 in
        let whole_run = unit-run ls some_run in
        record {
          run = ap (run_of is_ascii_alphabetic) letters ∙ take_all (prefix_len is_ascii_alphabetic (take n ls)) (take n ls) (omega arith);
          ends = ap (behind_run is_ascii_alphabetic) letters ∙ drop_all (prefix_len is_ascii_alphabetic (take n ls)) (take n ls) (omega arith);
        }
    by_case (inr none) =
        let size = unit-size-is (behind_number t) in
        let all : cut t ≡ t = take_all (part_size t) t (omega arith) in
        absurd (omega (arith, ap (λ z. length (behind_number z)) all, letter))

-- a front that begins with a part of this unit: it begins with the cut part, or the part that is cut is in milliseconds
data Starts (u : TimeUnit) (first : Bool) (s r : List ℕ) : Type 0 where
  same_cut : begins_part u first (cut (s ++ r)) ≡ true → has_point (cut (s ++ r)) ≡ has_point s → cut (s ++ r) ++ behind_part s ≡ s → Starts u first s r
  in_ms : (b c : ℕ) (q : List ℕ) → r ≡ c ∷ q → behind_number s ≡ b ∷ [] → same (codes "MS") (b ∷ c ∷ []) ≡ true → behind_part s ≡ [] → Starts u first s r

starts-same : (u : TimeUnit) (first : Bool) (s r : List ℕ) → 0 < length u.letters → begins_part u first s ≡ true
    → unit_size (behind_number (s ++ r)) ≡ prefix_len is_ascii_alphabetic (behind_number s) → Starts u first s r
starts-same u first s r some h e =
    let ls = behind_number s in
    let n = prefix_len is_ascii_alphabetic ls in
    let l = begins-letter u first s some h in
    let w = number-within s in
    let b = begins-parts u first s h in
    let x = extends s r (omega arith) in
    let q : ℕ = length s - length ls + n in
    let t_size = length-append s r in
    let ls_size = ap length x.behind ∙ length-append ls r in
    let q_is : part_size (s ++ r) ≡ q = omega arith in
    let cut_is : cut (s ++ r) ≡ take q s = ap (λ k. take k (s ++ r)) q_is ∙ take-append-le q s r (omega arith) in
    let c = cuts q s (omega arith) (omega arith) in
    let y = c.extends_to in
    let run_size : q - (length s - length ls) ≡ n = omega arith in
    let run : behind_number (take q s) ≡ run_of is_ascii_alphabetic ls = c.behind ∙ ap (λ k. take k ls) run_size in
    let own : run_of is_ascii_alphabetic (run_of is_ascii_alphabetic ls) ≡ run_of is_ascii_alphabetic ls =
    run-whole is_ascii_alphabetic (run_of is_ascii_alphabetic ls) (run-passes is_ascii_alphabetic ls) in
    let split : ls ≡ run_of is_ascii_alphabetic ls ++ drop q s = ap behind_number (sym c.whole_of) ∙ y.behind ∙ ap (λ z. z ++ drop q s) run in
    let behind : behind_part s ≡ drop q s =
    ap (drop n) split ∙ drop_at (run_of is_ascii_alphabetic ls) (drop q s) n (length-prefix_len is_ascii_alphabetic ls) in
    let begins_q : begins_part u first (take q s) ≡ true = begins-from u first (take q s) (record {
      number = sym (number-same (take q s) (take q s ++ drop q s) y.digits y.point y.fraction_is) ∙ ap has_number c.whole_of ∙ b.number;
      letters = ap (λ z. same u.letters (run_of is_ascii_alphabetic z)) run ∙ ap (same u.letters) own ∙ b.letters;
      limit = ap (limited u first) (sym y.digits ∙ ap whole c.whole_of) ∙ b.limit;
    }) in
    same_cut (ap (begins_part u first) cut_is ∙ begins_q) (ap has_point cut_is ∙ sym y.point
    ∙ ap has_point c.whole_of) (ap (λ z. z ++ behind_part s) cut_is ∙ ap (λ z. take q s ++ z) behind ∙ c.whole_of)

-- two letters that are `ms` in a text whose run is one letter
ms-behind : (ls r : List ℕ) → prefix_len is_ascii_alphabetic ls ≡ 1 → same (codes "MS") (take 2 (ls ++ r)) ≡ true
    → (b : ℕ) × (c : ℕ) × (q : List ℕ) × (r ≡ c ∷ q) × (ls ≡ b ∷ []) × (same (codes "MS") (b ∷ c ∷ []) ≡ true)
ms-behind [] r e h = absurd (omega arith)
ms-behind (b ∷ []) [] e h = let n = same_length (codes "MS") (b ∷ []) h in absurd (omega arith)
ms-behind (b ∷ []) (c ∷ q) e h = (b, c, q, refl, refl, h)
ms-behind (b ∷ c ∷ ls) r e h =
    let x = is-ms (b ∷ c ∷ []) h in
    let i : b ≡ x.m = let a = x.are in cc in
    let j : c ≡ x.s = let a = x.are in cc in
    let two = run-ms b c ls (ap to_ascii_lowercase i ∙ x.m_is) (ap to_ascii_lowercase j ∙ x.s_is) in
    absurd (omega arith)

begins-ms : (s r : List ℕ) → 0 < length (behind_number s) → same (codes "MS") (run_of is_ascii_alphabetic (behind_number s)) ≡ true
    → begins (codes "MS") (behind_number (s ++ r)) ≡ true
begins-ms s r left h =
    let ls = behind_number s in
    let n = prefix_len is_ascii_alphabetic ls in
    let within = prefix_len-le-length is_ascii_alphabetic ls in
    let two : 2 ≡ n = same_length (codes "MS") (run_of is_ascii_alphabetic ls) h ∙ length-prefix_len is_ascii_alphabetic ls in
    let front : take 2 (behind_number (s ++ r)) ≡ run_of is_ascii_alphabetic ls =
    ap (take 2) (extends s r left).behind ∙ take-append-le 2 ls r (omega arith) ∙ ap (λ k. take k ls) two in
    ap (same (codes "MS")) front ∙ h

starts-by : (u : TimeUnit) (first : Bool) (s r : List ℕ) (t : Bool) → 0 < length u.letters → begins_part u first s ≡ true
    → (length (run_of is_ascii_alphabetic (behind_number s)) ≡ 1) ⊎ (same (codes "MS") (run_of is_ascii_alphabetic (behind_number s)) ≡ true)
    → begins (codes "MS") (behind_number (s ++ r)) ≡ t → Starts u first s r
starts-by u first s r t some h (inr ms) e =
    let l = begins-letter u first s some h in
    let size : unit_size (behind_number (s ++ r)) ≡ 2 = cond-true (begins (codes "MS") (behind_number (s ++ r))) 2 1 (begins-ms s r (omega arith) ms) in
    starts-same u first s r some h (size ∙ same_length (codes "MS") (run_of is_ascii_alphabetic (behind_number s)) ms
    ∙ length-prefix_len is_ascii_alphabetic (behind_number s))
starts-by u first s r false some h (inl one) e =
    let size : unit_size (behind_number (s ++ r)) ≡ 1 = cond-false (begins (codes "MS") (behind_number (s ++ r))) 2 1 e in
    starts-same u first s r some h (size ∙ sym one ∙ length-prefix_len is_ascii_alphabetic (behind_number s))
starts-by u first s r true some h (inl one) e =
    let ls = behind_number s in
    let l = begins-letter u first s some h in
    let n : prefix_len is_ascii_alphabetic ls ≡ 1 = sym (length-prefix_len is_ascii_alphabetic ls) ∙ one in
    let ms = ms-behind ls r n (subst (λ z. begins (codes "MS") z ≡ true) (extends s r (omega arith)).behind e) in
    let size : length ls ≡ 1 = ap length ms.4 in
    in_ms ms.0 ms.1 ms.2 ms.3 ms.4 ms.5 (drop_all (prefix_len is_ascii_alphabetic ls) ls (omega arith))

starts : (u : TimeUnit) (us : List TimeUnit) (first : Bool) (s r : List ℕ) → Fits u us → begins_part u first s ≡ true → Starts u first s r
starts u us first s r f h =
    let run = run_of is_ascii_alphabetic (behind_number s) in
    let short = short-letters (u ∷ us) run f.short (or_left (same u.letters run) (among us run) (begins-parts u first s h).letters) in
    starts-by u first s r (begins (codes "MS") (behind_number (s ++ r))) f.some h short refl

-- ---- what units a front has

-- parts of the lower units don't begin with a part of this unit
skips : (u : TimeUnit) (us : List TimeUnit) (first : Bool) (s : List ℕ) → Fits u us → is_some (parts us first s) ≡ true → begins_part u first s ≡ false
skips u us first s f k =
    let run = run_of is_ascii_alphabetic (behind_number s) in
    false_from_ne_true (begins_part u first s) (λ h. both_ways (among us run) (f.apart run (begins-parts u first s h).letters) (told us first s k))

conflict-by : (u : TimeUnit) (us : List TimeUnit) (first : Bool) (s r : List ℕ) (t : Bool) → Fits u us → begins_part u first (cut (s ++ r)) ≡ true
    → among us (run_of is_ascii_alphabetic (behind_number s)) ≡ true
    → (length (run_of is_ascii_alphabetic (behind_number s)) ≡ 1) ⊎ (same (codes "MS") (run_of is_ascii_alphabetic (behind_number s)) ≡ true)
    → begins (codes "MS") (behind_number (s ++ r)) ≡ t → ⊥
conflict-by u us first s r true f h k short e =
    let ls = behind_number (s ++ r) in
    let size : unit_size ls ≡ 2 = cond-true (begins (codes "MS") ls) 2 1 e in
    let letters =
    ap (same u.letters) (sym ((cut-is u first (s ++ r) f.some h).run ∙ ap (λ n. take n ls) size)) ∙ (begins-parts u first (cut (s ++ r)) h).letters in
    let none : us ≡ [] = f.last (take 2 ls) letters e in
    both_ways (among us (run_of is_ascii_alphabetic (behind_number s))) (ap (λ vs. among vs (run_of is_ascii_alphabetic (behind_number s))) none) k
conflict-by u us first s r false f h k (inr ms) e =
    let run = run_of is_ascii_alphabetic (behind_number s) in
    let left : 0 < length (behind_number s) =
    omega (
      arith,
      same_length (codes "MS") run ms,
      length-prefix_len is_ascii_alphabetic (behind_number s),
      prefix_len-le-length is_ascii_alphabetic (behind_number s),
    ) in
    both_ways (begins (codes "MS") (behind_number (s ++ r))) e (begins-ms s r left ms)
conflict-by u us first s r false f h k (inl one) e =
    let ls = behind_number s in
    let run = run_of is_ascii_alphabetic ls in
    let within = prefix_len-le-length is_ascii_alphabetic ls in
    let n : prefix_len is_ascii_alphabetic ls ≡ 1 = sym (length-prefix_len is_ascii_alphabetic ls) ∙ one in
    let size : unit_size (behind_number (s ++ r)) ≡ 1 = cond-false (begins (codes "MS") (behind_number (s ++ r))) 2 1 e in
    let front : take 1 (behind_number (s ++ r)) ≡ run =
    ap (take 1) (extends s r (omega arith)).behind ∙ take-append-le 1 ls r (omega arith) ∙ ap (λ j. take j ls) (sym n) in
    let cut_run = (cut-is u first (s ++ r) f.some h).run ∙ ap (λ j. take j (behind_number (s ++ r))) size ∙ front in
    let letters : same u.letters run ≡ true = ap (same u.letters) (sym cut_run) ∙ (begins-parts u first (cut (s ++ r)) h).letters in
    both_ways (among us run) (f.apart run letters) k

-- nor does a text that begins with a part of this unit begin with parts of the lower units
conflict : (u : TimeUnit) (us : List TimeUnit) (first : Bool) (s r : List ℕ) → Fits u us → begins_part u first (cut (s ++ r)) ≡ true
    → is_some (parts us first s) ≡ true → ⊥
conflict u us first s r f h k =
    let run = run_of is_ascii_alphabetic (behind_number s) in
    let all = and_parts (brief u) (list_all brief us) f.short in
    conflict-by u us first s r (begins (codes "MS") (behind_number (s ++ r))) f h (told us first s k) (short-letters us run all.1 (told us first s k)) refl

-- ---- the greatest front

abbrev pub Greatest : List TimeUnit → Bool → List ℕ → ℕ → Type 0
Greatest us first t n = IsGreatest (λ front. is_some (parts us first front)) t n

-- where the text begins with no part of this unit
pub skip-greatest : (u : TimeUnit) (us : List TimeUnit) (first : Bool) (t : List ℕ) (n : ℕ) → Fits u us → begins_part u first (cut t) ≡ false
    → Greatest us first t n → Greatest (u ∷ us) first t n
skip-greatest u us first t n f absent g = record {
  passed = λ some. let k = g.passed some in from-read u us first (take n t) (later (skips u us first (take n t) f k) k);
  most = λ front rest e h. by_read front rest e (read u us first front h);
  within = g.within;
}
  where
    by_start : (front rest : List ℕ) → front ++ rest ≡ t → begins_part u first front ≡ true → Starts u first front rest → length front ≤ n
    by_start front rest e h (same_cut b p i) = absurd (both_ways (begins_part u first (cut t)) absent (subst (λ z. begins_part u first (cut z) ≡ true) e b))
    by_start front rest e h (in_ms b c q r_is ls_is ms ends) =
        let k = f.longer first front b c h ls_is ms in
        let i : (front ++ c ∷ []) ++ q ≡ t = append_assoc front (c ∷ []) q ∙ ap (λ z. front ++ z) (sym r_is) ∙ e in
        let m = g.most (front ++ c ∷ []) q i k in
        omega (arith, length-append front (c ∷ []))

    by_read : (front rest : List ℕ) → front ++ rest ≡ t → ReadAs u us first front → length front ≤ n
    by_read front rest e (later b k) = g.most front rest e k
    by_read front rest e (alone b k) = by_start front rest e b (starts u us first front rest f b)
    by_read front rest e (before b k p m) = by_start front rest e b (starts u us first front rest f b)

-- nothing stands behind a part, or further parts do, and then it has no point
abbrev More : List TimeUnit → List ℕ → List ℕ → Type 0
More us c behind = (behind ≡ []) ⊎ ((0 < length behind) × (has_point c ≡ false) × (is_some (parts us false (past_bar behind)) ≡ true))

-- a front of a text that begins with a part of this unit
record Begun (us : List TimeUnit) (c front : List ℕ) : Type 0 where
  behind : List ℕ
  is : c ++ behind ≡ front
  more : More us c behind

begun-cut : (u : TimeUnit) (us : List TimeUnit) (first : Bool) (s r : List ℕ) → Fits u us → begins_part u first (cut (s ++ r)) ≡ true
    → begins_part u first s ≡ true
    → More us s (behind_part s)
    → Starts u first s r → Begun us (cut (s ++ r)) s
begun-cut u us first s r f h b (inl none) (same_cut c p i) = record { behind = behind_part s; is = i; more = inl none }
begun-cut u us first s r f h b (inr (some, point, more)) (same_cut c p i) = record { behind = behind_part s; is = i; more = inr (some, p ∙ point, more) }
begun-cut u us first s r f h b more (in_ms m c q r_is ls_is ms ends) =
    let l = begins-letter u first s f.some b in
    let ls = behind_number (s ++ r) in
    let letters : ls ≡ m ∷ c ∷ q = (extends s r (omega arith)).behind ∙ ap (λ z. z ++ r) ls_is ∙ ap (λ z. m ∷ z) r_is in
    let front : take 2 ls ≡ m ∷ c ∷ [] = ap (take 2) letters in
    let size : unit_size ls ≡ 2 = cond-true (begins (codes "MS") ls) 2 1 (ap (same (codes "MS")) front ∙ ms) in
    let run = (cut-is u first (s ++ r) f.some h).run ∙ ap (λ n. take n ls) size ∙ front in
    let two =
    same_length u.letters (run_of is_ascii_alphabetic (behind_number (cut (s ++ r)))) (begins-parts u first (cut (s ++ r)) h).letters ∙ ap length run in
    absurd (omega (arith, ap length ls_is))

begun : (u : TimeUnit) (us : List TimeUnit) (first : Bool) (t front rest : List ℕ) → Fits u us → begins_part u first (cut t) ≡ true
    → front ++ rest ≡ t → is_some (parts (u ∷ us) first front) ≡ true → Begun us (cut t) front
begun u us first t front rest f h e k = subst (λ z. Begun us (cut z) front) e (by_read (read u us first front k))
  where
    begins_too : begins_part u first (cut (front ++ rest)) ≡ true
    begins_too = subst (λ z. begins_part u first (cut z) ≡ true) (sym e) h

    by_read : ReadAs u us first front → Begun us (cut (front ++ rest)) front
    by_read (later b m) = absurd (conflict u us first front rest f begins_too m)
    by_read (alone b n) = begun-cut u us first front rest f begins_too b (inl (nil-is (behind_part front) n)) (starts u us first front rest f b)
    by_read (before b n p m) = begun-cut u us first front rest f begins_too b (inr (not-nil (behind_part front) n, p, m)) (starts u us first front rest f b)

alone-passes : (u : TimeUnit) (us : List TimeUnit) (first : Bool) (t : List ℕ) → Fits u us → begins_part u first (cut t) ≡ true
    → is_some (parts (u ∷ us) first (cut t)) ≡ true
alone-passes u us first t f h = from-read u us first (cut t) (alone h (ap is_nil (cut-is u first t f.some h).ends))

-- where the part at the front has a point
pub pointed-greatest : (u : TimeUnit) (us : List TimeUnit) (first : Bool) (t : List ℕ) → Fits u us → begins_part u first (cut t) ≡ true
    → has_point (cut t) ≡ true → Greatest (u ∷ us) first t (part_size t)
pointed-greatest u us first t f h p = record {
  passed = λ some. alone-passes u us first t f h;
  most = λ front rest e k. let b = begun u us first t front rest f h e k in by_more front b.behind b.is b.more;
  within = omega arith;
}
  where
    by_more : (front behind : List ℕ) → cut t ++ behind ≡ front
        → More us (cut t) behind
        → length front ≤ part_size t
    by_more front behind e (inl none) = omega (arith, ap length e, length-append (cut t) behind, ap length none, length-take (part_size t) t)
    by_more front behind e (inr (some, point, more)) = absurd (both_ways (has_point (cut t)) point p)

-- ---- past an underscore

pub bar-before : (b : ℕ) (bs : List ℕ) → (b == 95) ≡ true → past_bar (b ∷ bs) ≡ bs
bar-before b bs e = cond-true (b == 95) bs (b ∷ bs) e

pub no-bar : (b : ℕ) (bs : List ℕ) → (b == 95) ≡ false → past_bar (b ∷ bs) ≡ b ∷ bs
no-bar b bs e = cond-false (b == 95) bs (b ∷ bs) e

bar-append : (bs r : List ℕ) → 0 < length bs → past_bar (bs ++ r) ≡ past_bar bs ++ r
bar-append [] r h = absurd (omega arith)
bar-append (b ∷ bs) r h = by_test (b == 95)
  where
    by_test : (t : Bool) → (if t then bs ++ r else b ∷ (bs ++ r)) ≡ (if t then bs else b ∷ bs) ++ r
    by_test true = refl
    by_test false = refl

pub bar-within : (bs : List ℕ) → length (past_bar bs) ≤ length bs
bar-within [] = omega arith
bar-within (b ∷ bs) = by_test (b == 95)
  where
    by_test : (t : Bool) → length (if t then bs else b ∷ bs) ≤ suc (length bs)
    by_test true = omega arith
    by_test false = omega arith

pub bar-take : (bs : List ℕ) (m : ℕ) → 0 < m → past_bar (take (length bs - length (past_bar bs) + m) bs) ≡ take m (past_bar bs)
bar-take [] m h = ap past_bar (take_all {A = ℕ} (length {A = ℕ} [] - length (past_bar []) + m) [] (omega arith)) ∙ sym (take_all {A = ℕ} m [] (omega arith))
bar-take (b ∷ bs) zero h = absurd (omega arith)
bar-take (b ∷ bs) (suc m) h = by_test (b == 95) refl
  where
    by_test : (t : Bool) → (b == 95) ≡ t → past_bar (take (suc (length bs) - length (past_bar (b ∷ bs)) + suc m) (b ∷ bs)) ≡ take (suc m) (past_bar (b ∷ bs))
    by_test true e =
        let i = bar-before b bs e in
        let n : suc (length bs) - length (past_bar (b ∷ bs)) + suc m ≡ suc (suc m) = omega (arith, ap length i) in
        ap (λ k. past_bar (take k (b ∷ bs))) n ∙ bar-before b (take (suc m) bs) e ∙ ap (take (suc m)) (sym i)
    by_test false e =
        let i = no-bar b bs e in
        let n : suc (length bs) - length (past_bar (b ∷ bs)) + suc m ≡ suc m = omega (arith, ap length i) in
        ap (λ k. past_bar (take k (b ∷ bs))) n ∙ no-bar b (take m bs) e ∙ ap (take (suc m)) (sym i)

digit-no-letter : (b : ℕ) → is_ascii_digit b ≡ true → is_ascii_alphabetic b ≡ false
digit-no-letter b h = grind (arith, nat_tests, common_steps)

first-passes : (p : ℕ → Bool) (b : ℕ) (bs : List ℕ) → 0 < prefix_len p (b ∷ bs) → p b ≡ true
first-passes p b bs h = by_test (p b) refl
  where
    by_test : (t : Bool) → p b ≡ t → p b ≡ true
    by_test true e = e
    by_test false e = absurd (omega (arith, cond-false (p b) (1 + prefix_len p bs) 0 e))

-- digits, with an underscore before them or none, don't begin with a letter
bar-no-letter : (bs : List ℕ) → 0 < prefix_len is_ascii_digit (past_bar bs) → (prefix_len is_ascii_alphabetic bs ≡ 0) × (0 < length bs)
bar-no-letter [] h = absurd (omega arith)
bar-no-letter (b ∷ bs) h = by_test (b == 95) refl
  where
    by_test : (t : Bool) → (b == 95) ≡ t → (prefix_len is_ascii_alphabetic (b ∷ bs) ≡ 0) × (0 < length (b ∷ bs))
    by_test true e =
        let letter : is_ascii_alphabetic b ≡ false = ap is_ascii_alphabetic (eqb-true b 95 e) in
        (cond-false (is_ascii_alphabetic b) (1 + prefix_len is_ascii_alphabetic bs) 0 letter, omega arith)
    by_test false e =
        let digit = first-passes is_ascii_digit b bs (subst (λ z. 0 < prefix_len is_ascii_digit z) (no-bar b bs e) h) in
        (cond-false (is_ascii_alphabetic b) (1 + prefix_len is_ascii_alphabetic bs) 0 (digit-no-letter b digit), omega arith)

take-behind : (c b : List ℕ) (k : ℕ) → take (length c + k) (c ++ b) ≡ c ++ take k b
take-behind [] b k = let e : 0 + k ≡ k = omega arith in ap (λ n. take n b) e
take-behind (x ∷ c) b k =
    let e : suc (length c) + k ≡ suc (length c + k) = omega arith in
    ap (λ n. take n (x ∷ (c ++ b))) e ∙ ap (λ z. x ∷ z) (take-behind c b k)

-- ---- parts behind the first one

-- what a front has behind the cut part is a front of what stands behind the underscore
begun-most : (us : List TimeUnit) (t front rest behind : List ℕ) (m : ℕ) → cut t ++ behind ≡ front → front ++ rest ≡ t → 0 < length behind
    → is_some (parts us false (past_bar behind)) ≡ true → Greatest us false (past_bar (drop (part_size t) t)) m
    → (0 < m) × (length front ≤ length t - length (past_bar (drop (part_size t) t)) + m)
begun-most us t front rest behind m is e some k g =
    let size : length (cut t) ≡ part_size t = length-take (part_size t) t ∙ omega arith in
    let split : cut t ++ (behind ++ rest) ≡ t = sym (append_assoc (cut t) behind rest) ∙ ap (λ z. z ++ rest) is ∙ e in
    let left : drop (part_size t) t ≡ behind ++ rest = ap (drop (part_size t)) (sym split) ∙ drop_at (cut t) (behind ++ rest) (part_size t) size in
    let past : past_bar behind ++ rest ≡ past_bar (drop (part_size t) t) = sym (bar-append behind rest some) ∙ ap past_bar (sym left) in
    let within = g.most (past_bar behind) rest past k in
    let digit = digit-first us false (past_bar behind) k in
    let run = prefix_len-le-length is_ascii_digit (past_bar behind) in
    let bar = bar-within behind in (
      omega arith,
      omega (arith, ap length is, ap length e, ap length past, length-append (cut t) behind, length-append front rest, length-append (past_bar behind) rest),
    )

-- where no part follows the part at the front
pub alone-greatest : (u : TimeUnit) (us : List TimeUnit) (first : Bool) (t : List ℕ) → Fits u us → begins_part u first (cut t) ≡ true
    → Greatest us false (past_bar (drop (part_size t) t)) 0 → Greatest (u ∷ us) first t (part_size t)
alone-greatest u us first t f h g = record {
  passed = λ some. alone-passes u us first t f h;
  most = λ front rest e k. let b = begun u us first t front rest f h e k in by_more front rest e b.behind b.is b.more;
  within = omega arith;
}
  where
    by_more : (front rest : List ℕ) → front ++ rest ≡ t → (behind : List ℕ) → cut t ++ behind ≡ front
        → More us (cut t) behind
        → length front ≤ part_size t
    by_more front rest e behind is (inl none) = omega (arith, ap length is, length-append (cut t) behind, ap length none, length-take (part_size t) t)
    by_more front rest e behind is (inr (some, point, more)) = let m = begun-most us t front rest behind 0 is e some more g in absurd (omega arith)

-- where parts follow the part at the front
pub more-greatest : (u : TimeUnit) (us : List TimeUnit) (first : Bool) (t : List ℕ) (m : ℕ) → Fits u us → begins_part u first (cut t) ≡ true
    → has_point (cut t) ≡ false → 0 < m → Greatest us false (past_bar (drop (part_size t) t)) m
    → Greatest (u ∷ us) first t (length t - length (past_bar (drop (part_size t) t)) + m)
more-greatest u us first t m f h p some g = record {
  passed = λ _. passes;
  most = λ front rest e k. let b = begun u us first t front rest f h e k in by_more front rest e b.behind b.is b.more;
  within = omega (arith, g.within, bar-within (drop (part_size t) t), length-drop (part_size t) t);
}
  where
    by_more : (front rest : List ℕ) → front ++ rest ≡ t → (behind : List ℕ) → cut t ++ behind ≡ front
        → More us (cut t) behind
        → length front ≤ length t - length (past_bar (drop (part_size t) t)) + m
    by_more front rest e behind is (inl none) =
        omega (
          arith,
          ap length is,
          length-append (cut t) behind,
          ap length none,
          length-take (part_size t) t,
          bar-within (drop (part_size t) t),
          length-drop (part_size t) t,
        )
    by_more front rest e behind is (inr (some, point, more)) = (begun-most us t front rest behind m is e some more g).1

    passes : is_some (parts (u ∷ us) first (take (length t - length (past_bar (drop (part_size t) t)) + m) t)) ≡ true
    passes =
        let c = cut t in
        let b = drop (part_size t) t in
        let k = length b - length (past_bar b) + m in
        let behind = take k b in
        let size : length c ≡ part_size t = length-take (part_size t) t ∙ omega arith in
        let n : length t - length (past_bar b) + m ≡ length c + k = omega (arith, bar-within b, length-drop (part_size t) t) in
        let split : take (length t - length (past_bar b) + m) t ≡ c ++ behind =
        ap (λ j. take j t) n ∙ ap (take (length c + k)) (sym (take-append-drop (part_size t) t)) ∙ take-behind c b k in
        let past : past_bar behind ≡ take m (past_bar b) = bar-take b m some in
        let good : is_some (parts us false (past_bar behind)) ≡ true = ap (λ z. is_some (parts us false z)) past ∙ g.passed some in
        let digit = bar-no-letter behind (digit-first us false (past_bar behind) good) in
        let x = followed u first c behind f.some h digit.0 in
        let rest : behind_part (c ++ behind) ≡ behind = x.behind ∙ ap (λ z. z ++ behind) (cut-is u first t f.some h).ends in
        ap (λ z. is_some (parts (u ∷ us) first z)) split
        ∙ from-read u us first (c ++ behind)
        (before x.begins_too (ap is_nil rest ∙ some-not-nil behind digit.1) (x.point ∙ p) (ap (λ z. is_some (parts us false (past_bar z))) rest ∙ good))

-- ---- the units from one on

abbrev pub rest_of : List TimeUnit → List TimeUnit
rest_of us = take (length us - 1) (drop 1 us)

-- a unit of the table, before the rest of it
pub record Ahead (us : List TimeUnit) (u : TimeUnit) : Type 0 where
  pub split : us ≡ u ∷ rest_of us
  pub fits_rest : Fits u (rest_of us)

units-split : (us : List TimeUnit) (u : TimeUnit) → 1 ≤ length us → u ≡ get_or us 0 u → us ≡ u ∷ rest_of us
units-split [] u h e = absurd (omega arith)
units-split (v ∷ vs) u h e = ap (λ x. x ∷ vs) (sym e) ∙ ap (λ xs. u ∷ xs) (sym (take_all (suc (length vs) - 1) vs (omega arith)))

pub ahead : (us : List TimeUnit) (u : TimeUnit) (k : ℕ) → 1 ≤ length us → u ≡ get_or us 0 u → us ≡ drop k units → Ahead us u
ahead us u k h e i = let split = units-split us u h e in record { split = split; fits_rest = fits k u (rest_of us) (sym split ∙ i) }

pub units-behind : (us : List TimeUnit) (k : ℕ) → 1 ≤ length us → us ≡ drop k units → (k + 1 ≤ 5) × (rest_of us ≡ drop (k + 1) units)
units-behind us k h e = (
  omega (arith, ap length e, length-drop k units),
  take_all (length us - 1) (drop 1 us) (omega (arith, length-drop 1 us)) ∙ ap (drop 1) e ∙ drop-drop 1 k units,
)

whole-table : (us : List TimeUnit) (u : TimeUnit) (first : Bool) (t : List ℕ) (n : ℕ) → Ahead us u → Greatest (u ∷ rest_of us) first t n → Greatest us first t n
whole-table us u first t n a g = subst (λ vs. Greatest vs first t n) (sym a.split) g

-- the same four at what the functions compute: the size of the part, and what stands behind it
pub skip-front : (us : List TimeUnit) (u : TimeUnit) (first : Bool) (t : List ℕ) (size n : ℕ) → Ahead us u → size ≡ part_size t
    → begins_part u first (take size t) ≡ false → Greatest (rest_of us) first t n → Greatest us first t n
skip-front us u first t size n a e h g =
    whole-table us u first t n a (skip-greatest u (rest_of us) first t n a.fits_rest (subst (λ k. begins_part u first (take k t) ≡ false) e h) g)

pub pointed-front : (us : List TimeUnit) (u : TimeUnit) (first : Bool) (t : List ℕ) (size : ℕ) → Ahead us u → size ≡ part_size t
    → begins_part u first (take size t) ≡ true → has_point (take size t) ≡ true → Greatest us first t size
pointed-front us u first t size a e h p =
    let g =
    pointed-greatest u (rest_of us) first t a.fits_rest (subst (λ k. begins_part u first (take k t) ≡ true) e h)
    (subst (λ k. has_point (take k t) ≡ true) e p) in
    whole-table us u first t size a (subst (Greatest (u ∷ rest_of us) first t) (sym e) g)

pub alone-front : (us : List TimeUnit) (u : TimeUnit) (first : Bool) (t behind : List ℕ) (size : ℕ) → Ahead us u → size ≡ part_size t
    → begins_part u first (take size t) ≡ true → behind ≡ past_bar (drop size t) → Greatest (rest_of us) false behind 0 → Greatest us first t size
alone-front us u first t behind size a e h b g =
    let past = b ∙ ap (λ k. past_bar (drop k t)) e in
    let r =
    alone-greatest u (rest_of us) first t a.fits_rest (subst (λ k. begins_part u first (take k t) ≡ true) e h)
    (subst (λ z. Greatest (rest_of us) false z 0) past g) in
    whole-table us u first t size a (subst (Greatest (u ∷ rest_of us) first t) (sym e) r)

pub more-front : (us : List TimeUnit) (u : TimeUnit) (first : Bool) (t behind : List ℕ) (size m : ℕ) → Ahead us u → size ≡ part_size t
    → begins_part u first (take size t) ≡ true → has_point (take size t) ≡ false → behind ≡ past_bar (drop size t) → 0 < m
    → Greatest (rest_of us) false behind m → Greatest us first t (length t - length behind + m)
more-front us u first t behind size m a e h p b some g =
    let past = b ∙ ap (λ k. past_bar (drop k t)) e in
    let begins_too = subst (λ k. begins_part u first (take k t) ≡ true) e h in
    let point = subst (λ k. has_point (take k t) ≡ false) e p in
    let r = more-greatest u (rest_of us) first t m a.fits_rest begins_too point some (subst (λ z. Greatest (rest_of us) false z m) past g) in
    whole-table us u first t (length t - length behind + m) a (subst (λ z. Greatest (u ∷ rest_of us) first t (length t - length z + m)) (sym past) r)
