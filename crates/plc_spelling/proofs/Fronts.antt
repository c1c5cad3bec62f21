-- The greatest fronts of texts that begin with bytes, a word or a run, and have more behind it.
use Rattle.std.proofs.Common.{◌≡◌, ℕ, zero, suc, ◌+◌, ◌≤◌, ◌<◌, Bool, true, false, ◌&&◌, cond, List, [], ◌∷◌, ◌++◌, length, take, drop, get_or, one-add, refl, sym, ap, subst, ◌∙◌, arith, length-take, length-drop, if◌then◌else◌}
use Rattle.std.specs.Prelude.{not, bytes_eq}
use Rattle.std.specs.List.{prefix_len}
use Rattle.std.specs.Str.{str_eq_ignore_ascii_case}
use Rattle.std.proofs.lemmas.List.{take-append-drop, drop-take, drop-append-le, take-append-le}
use Rattle.std.proofs.lemmas.List.Folds.{length-prefix_len}
use Rattle.std.proofs.lemmas.List.Sums.{prefix_len-le-length}
use Rattle.std.proofs.Math.Seq.{take-append_seam}
use Rattle.std.proofs.lemmas.Bool.{both_ways, and_parts, and_from, false_from_ne_true, true≢false}
use Rattle.std.proofs.lemmas.Slice.Eq.{bytes_eq-Decides}
use Rattle.plc_spelling.specs.Text.{IsGreatest, is_nil, begins, begins_with, run_of, behind_run}
use Rattle.plc_spelling.proofs.Greatest.{greatest-none}
use Rattle.plc_spelling.proofs.Runs.{run-passes, run-whole, run-stays, run-grows, run-ended, same_length}

-- ---- bytes that open, and more behind them

-- the bytes of what opens and of what stands behind it, none where one of both is missing
abbrev pub past : Bool → ℕ → ℕ → ℕ
past false k n = 0
past true k zero = 0
past true k (suc n) = k + suc n

pub past-closed : (opened : Bool) (k n : ℕ) → opened ≡ false → past opened k n ≡ 0
past-closed false k n h = refl
past-closed true k n h = absurd (true≢false h)

pub past-none : (opened : Bool) (k n : ℕ) → n ≡ 0 → past opened k n ≡ 0
past-none false k n h = refl
past-none true k zero h = refl
past-none true k (suc n) h = absurd (omega (arith, h))

pub past-some : (opened : Bool) (k n : ℕ) → opened ≡ true → 0 < n → past opened k n ≡ k + n
past-some true k (suc n) h some = refl
past-some true k zero h some = absurd (omega (arith, some))
past-some false k n h some = absurd (true≢false (sym h))

module _ (passes tests : List ℕ → Bool) (text : List ℕ) (k : ℕ)
    (empty : tests [] ≡ false) where
  -- a front has something behind its first k bytes where that passes
  pub longer-front : (front : List ℕ) → k ≤ length front → tests (drop k front) ≡ true → k < length front
  longer-front front le h = by (drop k front) refl h
    where
      by : (bs : List ℕ) → drop k front ≡ bs → tests bs ≡ true → k < length front
      by [] e t = absurd (both_ways (tests []) empty t)
      by (b ∷ bs) e t = omega (arith, length-drop k front, ap length e)

  -- a test of the bytes behind the first k, where a front that passes has these
  pub greatest-past : (n : ℕ) (opened : Bool)
      → ((front rest : List ℕ) → front ++ rest ≡ text → passes front ≡ true → (opened ≡ true) × (k ≤ length front) × (tests (drop k front) ≡ true))
      → ((front rest : List ℕ) → front ++ rest ≡ text → opened ≡ true → k ≤ length front → tests (drop k front) ≡ true → passes front ≡ true)
      → IsGreatest tests (drop k text) n
      → IsGreatest passes text (past opened k n)
  greatest-past n false reads holds law = greatest-none passes text (λ front rest is. false_from_ne_true (passes front) (λ h. true≢false (sym (reads front rest is h).0)))
  greatest-past zero true reads holds law = greatest-none passes text (λ front rest is. false_from_ne_true (passes front) (λ h. none front rest is h))
    where
      none : (front rest : List ℕ) → front ++ rest ≡ text → passes front ≡ true → ⊥
      none front rest is h =
          let says = reads front rest is h in
          let split : drop k front ++ rest ≡ drop k text = sym (drop-append-le k front rest says.1) ∙ ap (drop k) is in
          omega (arith, law.most (drop k front) rest split says.2, length-drop k front, longer-front front says.1 says.2)
  greatest-past (suc n) true reads holds law = record {
    passed = λ some. holds (take (k + suc n) text) (drop (k + suc n) text) (take-append-drop (k + suc n) text) refl (omega (arith, length-take (k + suc n) text, within))
        (subst (λ bs. tests bs ≡ true) (sym (drop-take k (suc n) text)) (law.passed (omega arith)));
    most = most;
    within = within;
  }
    where
      within : k + suc n ≤ length text
      within = omega (arith, law.within, length-drop k text)

      most : (front rest : List ℕ) → front ++ rest ≡ text → passes front ≡ true → length front ≤ k + suc n
      most front rest is h =
          let says = reads front rest is h in
          let split : drop k front ++ rest ≡ drop k text = sym (drop-append-le k front rest says.1) ∙ ap (drop k) is in
          omega (arith, law.most (drop k front) rest split says.2, length-drop k front, says.1)

-- ---- a byte at the front

-- a front with a byte begins as the text does
pub first_byte : (b : ℕ) (front rest text : List ℕ) → front ++ rest ≡ text → 0 < length front → begins_with b front ≡ begins_with b text
first_byte b [] rest text is some = absurd (omega (arith, some))
first_byte b (c ∷ front) rest text is some = ap (begins_with b) is

pub has_first : (b : ℕ) (front : List ℕ) → begins_with b front ≡ true → 0 < length front
has_first b [] h = absurd (true≢false (sym h))
has_first b (c ∷ front) h = omega arith

pub greatest-byte : (b : ℕ) (tests : List ℕ → Bool) (text : List ℕ) (n : ℕ)
    → tests [] ≡ false
    → IsGreatest tests (drop 1 text) n
    → IsGreatest (λ bs. begins_with b bs && tests (drop 1 bs)) text (past (begins_with b text) 1 n)
greatest-byte b tests text n empty law = greatest-past (λ bs. begins_with b bs && tests (drop 1 bs)) tests text 1 empty n (begins_with b text)
    (λ front rest is h.
    let parts = and_parts (begins_with b front) (tests (drop 1 front)) h in
    let some = has_first b front parts.0 in
    (sym (first_byte b front rest text is some) ∙ parts.0, some, parts.1))
    (λ front rest is h le t. and_from (begins_with b front) (tests (drop 1 front)) (first_byte b front rest text is le ∙ h) t)
    law

-- ---- a word at the front, in letters of either case

-- whether a text begins with a word is seen at each front of its length
pub begins-front : (word front rest text : List ℕ) → front ++ rest ≡ text → length word ≤ length front → begins word front ≡ begins word text
begins-front word front rest text is le = ap (str_eq_ignore_ascii_case word) (sym (take-append-le (length word) front rest le) ∙ ap (take (length word)) is)

-- a text that begins with a word has its length
pub begins-fits : (word front : List ℕ) → begins word front ≡ true → length word ≤ length front
begins-fits word front h = omega (arith, same_length word (take (length word) front) h, length-take (length word) front)

pub greatest-word : (word : List ℕ) (tests : List ℕ → Bool) (text : List ℕ) (n : ℕ)
    → tests [] ≡ false
    → IsGreatest tests (drop (length word) text) n
    → IsGreatest (λ bs. begins word bs && tests (drop (length word) bs)) text (past (begins word text) (length word) n)
greatest-word word tests text n empty law = greatest-past (λ bs. begins word bs && tests (drop (length word) bs)) tests text (length word) empty n (begins word text)
    (λ front rest is h.
    let parts = and_parts (begins word front) (tests (drop (length word) front)) h in
    let le = begins-fits word front parts.0 in
    (sym (begins-front word front rest text is le) ∙ parts.0, le, parts.1))
    (λ front rest is h le t. and_from (begins word front) (tests (drop (length word) front)) (begins-front word front rest text is le ∙ h) t)
    law

-- ---- lists with an element and without one

abbrev pub has_bytes : List ℕ → Bool
has_bytes bs = not (is_nil bs)

not_nil : (bs : List ℕ) → 0 < length bs → has_bytes bs ≡ true
not_nil [] some = absurd (omega (arith, some))
not_nil (b ∷ bs) some = refl

nil_length : (bs : List ℕ) → is_nil bs ≡ true → length bs ≡ 0
nil_length [] h = refl
nil_length (b ∷ bs) h = absurd (true≢false (sym h))

nil_from : (bs : List ℕ) → length bs ≡ 0 → is_nil bs ≡ true
nil_from [] h = refl
nil_from (b ∷ bs) h = absurd (omega (arith, h))

-- ---- a run at the front

module _ (class : ℕ → Bool) where
  pub run-none : (text : List ℕ) → prefix_len class text ≡ 0 → has_bytes (run_of class text) ≡ false
  run-none text none = ap not (nil_from (run_of class text) (length-prefix_len class text ∙ none))

  pub run-some : (text : List ℕ) → 0 < prefix_len class text → has_bytes (run_of class text) ≡ true
  run-some text some = not_nil (run_of class text) (omega (arith, length-prefix_len class text, some))

  pub run-first : (b : ℕ) (text : List ℕ) → 0 < prefix_len class text → begins_with b (run_of class text) ≡ begins_with b text
  run-first b text some = first_byte b (run_of class text) (behind_run class text) text (take-append-drop (prefix_len class text) text)
      (omega (arith, length-prefix_len class text, some))

  -- the first byte tells whether there is a run, where the class doesn't have 0
  pub first-run : (text : List ℕ) → class 0 ≡ false → class (get_or text 0 0) ≡ has_bytes (run_of class text)
  first-run [] no_zero = no_zero
  first-run (b ∷ bs) no_zero = by (class b)
    where
      by : (t : Bool) → t ≡ has_bytes (take (cond t (1 + prefix_len class bs) 0) (b ∷ bs))
      by true = sym (ap (λ n. has_bytes (take n (b ∷ bs))) (one-add (prefix_len class bs)))
      by false = refl

  run_within : (front rest : List ℕ) → prefix_len class front ≡ length front → length front ≤ prefix_len class (front ++ rest)
  run_within front rest whole = omega (arith, whole, run-grows class front rest)

  same_run : (front rest text : List ℕ) → front ++ rest ≡ text → prefix_len class text ≡ prefix_len class front → run_of class text ≡ run_of class front
  same_run front rest text is e =
      ap (λ n. take n text) e ∙ ap (take (prefix_len class front)) (sym is) ∙ take-append-le (prefix_len class front) front rest (prefix_len-le-length class front)

  -- a test of the run at the front, and one of what stands behind it
  pub greatest-run : (opens tests : List ℕ → Bool) (text : List ℕ) (n : ℕ)
      → tests [] ≡ false
      → IsGreatest tests (behind_run class text) n
      → IsGreatest (λ bs. opens (run_of class bs) && tests (behind_run class bs)) text (past (opens (run_of class text)) (prefix_len class text) n)
  greatest-run opens tests text n empty law = greatest-past (λ bs. opens (run_of class bs) && tests (behind_run class bs)) tests text (prefix_len class text)
      empty n (opens (run_of class text)) reads holds law
    where
      reads : (front rest : List ℕ) → front ++ rest ≡ text → (opens (run_of class front) && tests (behind_run class front)) ≡ true
          → (opens (run_of class text) ≡ true) × (prefix_len class text ≤ length front) × (tests (drop (prefix_len class text) front) ≡ true)
      reads front rest is h =
          let parts = and_parts (opens (run_of class front)) (tests (behind_run class front)) h in
          let less = longer-front tests tests front (prefix_len class front) empty front (prefix_len-le-length class front) parts.1 in
          let same : prefix_len class text ≡ prefix_len class front = ap (prefix_len class) (sym is) ∙ run-stays class front rest less in
          (ap opens (same_run front rest text is same) ∙ parts.0, omega (arith, same, less), subst (λ n. tests (drop n front) ≡ true) (sym same) parts.1)

      holds : (front rest : List ℕ) → front ++ rest ≡ text → opens (run_of class text) ≡ true → prefix_len class text ≤ length front
          → tests (drop (prefix_len class text) front) ≡ true → (opens (run_of class front) && tests (behind_run class front)) ≡ true
      holds front rest is h le t =
          let less = longer-front tests tests front (prefix_len class text) empty front le t in
          let same : prefix_len class text ≡ prefix_len class front =
          ap (prefix_len class) (sym is) ∙ run-ended class front rest (subst (λ bs. prefix_len class bs < length front) (sym is) less) in
          and_from (opens (run_of class front)) (tests (behind_run class front)) (sym (ap opens (same_run front rest text is same)) ∙ h)
          (subst (λ n. tests (drop n front) ≡ true) same t)

-- ---- a run alone

pub greatest-alone : (class : ℕ → Bool) (text : List ℕ)
    → IsGreatest (λ bs. has_bytes bs && is_nil (behind_run class bs)) text (prefix_len class text)
greatest-alone class text = record {
  passed = λ some. and_from (has_bytes (run_of class text)) (is_nil (behind_run class (run_of class text)))
      (not_nil (run_of class text) (omega (arith, some, size))) (nil_from (behind_run class (run_of class text)) (omega (arith, whole, gap)));
  most = most;
  within = prefix_len-le-length class text;
}
  where
    size : length (run_of class text) ≡ prefix_len class text
    size = length-prefix_len class text

    whole : length (run_of class (run_of class text)) ≡ length (run_of class text)
    whole = ap length (run-whole class (run_of class text) (run-passes class text))

    gap : length (behind_run class (run_of class text)) ≡ 0
    gap = omega (arith, whole, length-prefix_len class (run_of class text), length-drop (prefix_len class (run_of class text)) (run_of class text))

    most : (front rest : List ℕ) → front ++ rest ≡ text → (has_bytes front && is_nil (behind_run class front)) ≡ true → length front ≤ prefix_len class text
    most front rest is h =
        let nothing : length (behind_run class front) ≡ 0 = nil_length (behind_run class front) (and_parts (has_bytes front) (is_nil (behind_run class front)) h).1 in
        let whole : prefix_len class front ≡ length front = omega (arith, nothing, length-drop (prefix_len class front) front, prefix_len-le-length class front) in
        subst (λ bs. length front ≤ prefix_len class bs) is (run_within class front rest whole)

-- ---- known bytes

-- the bytes, where the text begins with them
abbrev pub known : List ℕ → List ℕ → ℕ
known word text = if bytes_eq word (take (length word) text) then length word else 0

pub greatest-known : (word text : List ℕ) → IsGreatest (bytes_eq word) text (known word text)
greatest-known word text = by (bytes_eq word (take (length word) text)) refl
  where
    same : (bs : List ℕ) → bytes_eq word bs ≡ true → word ≡ bs
    same bs h = (bytes_eq-Decides word bs).0 h

    by : (b : Bool) → bytes_eq word (take (length word) text) ≡ b → IsGreatest (bytes_eq word) text (if b then length word else 0)
    by true e = record {
      passed = λ some. e;
      most = λ front rest is h. omega (arith, ap length (same front h));
      within = omega (arith, ap length (same (take (length word) text) e), length-take (length word) text);
    }
    by false e = greatest-none (bytes_eq word) text (λ front rest is. false_from_ne_true (bytes_eq word front) (λ h.
        both_ways (bytes_eq word (take (length word) text)) e (subst (λ bs. bytes_eq word bs ≡ true) (begins_so front rest is h) h)))
      where
        begins_so : (front rest : List ℕ) → front ++ rest ≡ text → bytes_eq word front ≡ true → front ≡ take (length word) text
        begins_so front rest is h = sym (take-append_seam front rest) ∙ ap (λ n. take n (front ++ rest)) (sym (ap length (same front h))) ∙ ap (take (length word)) is
