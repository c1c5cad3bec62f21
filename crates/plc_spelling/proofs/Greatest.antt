-- The greatest front of a text that passes a test.
use Rattle.std.proofs.Common.{◌≡◌, ◌⊎◌, ℕ, zero, suc, ◌+◌, ◌≤◌, ◌<◌, max, Bool, true, false, ◌||◌, ◌==◌, List, [], ◌∷◌, ◌++◌, length, take, drop, refl, sym, ap, subst, ◌∙◌, arith, length-take, length-drop, ⊎_elim, if◌then◌else◌}
use Rattle.std.proofs.lemmas.List.{length-append, take-append-drop, append-nil, drop-take, drop-append-le, take_all}
use Rattle.std.proofs.Math.Seq.{take-append_seam}
use Rattle.std.proofs.lemmas.Bool.{cases_Bool, cases_lt, both_ways, or_cases, or_left, or_right, eq-eqb, ne_eqb}
use Rattle.plc_spelling.specs.Text.{is_nil, longest_to, longest, IsGreatest}

-- ---- the greatest front that a walk from the longest one down finds

passed_to : (passes : List ℕ → Bool) (text : List ℕ) (n : ℕ) → 0 < longest_to passes text n → passes (take (longest_to passes text n) text) ≡ true
passed_to passes text zero some = absurd (omega arith)
passed_to passes text (suc n) some = by (passes (take (suc n) text)) refl (passed_to passes text n) some
  where
    by : (b : Bool) → passes (take (suc n) text) ≡ b → (0 < longest_to passes text n → passes (take (longest_to passes text n) text) ≡ true)
        → 0 < (if b then suc n else longest_to passes text n) → passes (take (if b then suc n else longest_to passes text n) text) ≡ true
    by true e rest some = e
    by false e rest some = rest some

less_or_same : (m n : ℕ) → m ≤ suc n → (m ≤ n) ⊎ (m ≡ suc n)
less_or_same m n le = grind arith

most_to : (passes : List ℕ → Bool) (text : List ℕ) (n m : ℕ) → m ≤ n → passes (take m text) ≡ true → m ≤ longest_to passes text n
most_to passes text zero m le h = le
most_to passes text (suc n) m le h = by (passes (take (suc n) text)) refl (λ less. most_to passes text n m less h)
  where
    by : (b : Bool) → passes (take (suc n) text) ≡ b → (m ≤ n → m ≤ longest_to passes text n) → m ≤ (if b then suc n else longest_to passes text n)
    by true e rest = le
    by false e rest = rest (not_last e)
      where
        not_last : passes (take (suc n) text) ≡ false → m ≤ n
        not_last e = ⊎_elim (λ less. less) (λ same. absurd (both_ways (passes (take (suc n) text)) e (subst (λ k. passes (take k text) ≡ true) same h))) (less_or_same m n le)

within_to : (passes : List ℕ → Bool) (text : List ℕ) (n : ℕ) → longest_to passes text n ≤ n
within_to passes text zero = omega arith
within_to passes text (suc n) = by (passes (take (suc n) text)) (within_to passes text n)
  where
    by : (b : Bool) → longest_to passes text n ≤ n → (if b then suc n else longest_to passes text n) ≤ suc n
    by true rest = omega arith
    by false rest = omega (arith, rest)

front_of : (passes : List ℕ → Bool) (front rest text : List ℕ) → front ++ rest ≡ text → passes front ≡ true → passes (take (length front) text) ≡ true
front_of passes front rest text is h = subst (λ bs. passes bs ≡ true) (sym (take-append_seam front rest) ∙ ap (take (length front)) is) h

front_within : (front rest text : List ℕ) → front ++ rest ≡ text → length front ≤ length text
front_within front rest text is = omega (arith, length-append front rest, ap length is)

-- it is the greatest
pub longest-greatest : (passes : List ℕ → Bool) (text : List ℕ) → IsGreatest passes text (longest passes text)
longest-greatest passes text = record {
  passed = passed_to passes text (length text);
  most = λ front rest is h. most_to passes text (length text) (length front) (front_within front rest text is) (front_of passes front rest text is h);
  within = within_to passes text (length text);
}

-- ---- from greatest fronts to greatest fronts

up_to_or_past : (m n : ℕ) → (m ≤ n) ⊎ (n < m)
up_to_or_past m n = grind arith

module _ (passes : List ℕ → Bool) (text : List ℕ) where
  least : (n m : ℕ) → IsGreatest passes text n → IsGreatest passes text m → n ≤ m
  least zero m law more = omega arith
  least (suc n) m law more =
      let passed : passes (take (suc n) text) ≡ true = law.passed (omega arith) in
      omega (arith, more.most (take (suc n) text) (drop (suc n) text) (take-append-drop (suc n) text) passed, length-take (suc n) text, law.within)

  -- there is one
  pub greatest-same : (n m : ℕ) → IsGreatest passes text n → IsGreatest passes text m → n ≡ m
  greatest-same n m law more = omega (arith, least n m law more, least m n more law)

  pub longest-is : (n : ℕ) → IsGreatest passes text n → longest passes text ≡ n
  longest-is n law = greatest-same (longest passes text) n (longest-greatest passes text) law

  -- none passes
  pub greatest-none : ((front rest : List ℕ) → front ++ rest ≡ text → passes front ≡ false) → IsGreatest passes text 0
  greatest-none none = record {
    passed = λ some. absurd (omega arith);
    most = λ front rest is h. absurd (both_ways (passes front) (none front rest is) h);
    within = omega arith;
  }

  -- another test that says the same of each front
  pub greatest-as : (tests : List ℕ → Bool) (n : ℕ) → ((front rest : List ℕ) → front ++ rest ≡ text → tests front ≡ passes front) → IsGreatest passes text n → IsGreatest tests text n
  greatest-as tests n same law = record {
    passed = λ some. same (take n text) (drop n text) (take-append-drop n text) ∙ law.passed some;
    most = λ front rest is h. law.most front rest is (sym (same front rest is) ∙ h);
    within = law.within;
  }

  -- one of two tests
  pub greatest-or : (tests : List ℕ → Bool) (n m : ℕ) → IsGreatest passes text n → IsGreatest tests text m → IsGreatest (λ bs. passes bs || tests bs) text (max n m)
  greatest-or tests n m law more = record {
    passed = passed;
    most = λ front rest is h. ⊎_elim (λ e. omega (arith, law.most front rest is e)) (λ e. omega (arith, more.most front rest is e)) (or_cases (passes front) (tests front) h);
    within = omega (arith, law.within, more.within);
  }
    where
      passed : 0 < max n m → (passes (take (max n m) text) || tests (take (max n m) text)) ≡ true
      passed some = ⊎_elim
          (λ le. let same : max n m ≡ n = omega (arith, le) in subst (λ k. (passes (take k text) || tests (take k text)) ≡ true) (sym same)
          (or_left (passes (take n text)) (tests (take n text)) (law.passed (omega (arith, some, le)))))
          (λ less. let same : max n m ≡ m = omega (arith, less) in subst (λ k. (passes (take k text) || tests (take k text)) ≡ true) (sym same)
          (or_right (passes (take m text)) (tests (take m text)) (more.passed (omega (arith, some, less)))))
          (up_to_or_past m n)

-- what a test finds behind the first k bytes, where another says the same of each front that has them
pub greatest-behind : (passes tests : List ℕ → Bool) (text : List ℕ) (k n : ℕ)
    → k ≤ length text
    → tests [] ≡ true
    → ((front rest : List ℕ) → front ++ rest ≡ text → k ≤ length front → passes front ≡ tests (drop k front))
    → IsGreatest tests (drop k text) n
    → IsGreatest passes text (k + n)
greatest-behind passes tests text k n fits empty same law = record {
  passed = λ some. passed;
  most = most;
  within = within;
}
  where
    at_most : (n : ℕ) → IsGreatest tests (drop k text) n → tests (take n (drop k text)) ≡ true
    at_most zero law = empty
    at_most (suc m) law = law.passed (omega arith)

    within : k + n ≤ length text
    within = omega (arith, law.within, length-drop k text, fits)

    passed : passes (take (k + n) text) ≡ true
    passed =
        same (take (k + n) text) (drop (k + n) text) (take-append-drop (k + n) text) (omega (arith, length-take (k + n) text, within))
        ∙ ap tests (drop-take k n text) ∙ at_most n law

    most : (front rest : List ℕ) → front ++ rest ≡ text → passes front ≡ true → length front ≤ k + n
    most front rest is h = ⊎_elim
        (λ less. omega (arith, less))
        (λ le.
        let split : drop k front ++ rest ≡ drop k text = sym (drop-append-le k front rest le) ∙ ap (drop k) is in
        omega (arith, law.most (drop k front) rest split (sym (same front rest is le) ∙ h), length-drop k front, le))
        (cases_lt (length front) k)

nil_empty : (bs : List ℕ) → is_nil bs ≡ true → length bs ≤ 0
nil_empty [] h = omega arith
nil_empty (b ∷ bs) h = absurd (both_ways false refl h)

module _ (passes : List ℕ → Bool) (text : List ℕ) where
  -- the greatest front stays so where the empty front passes too
  pub greatest-or-nil : (n : ℕ) → IsGreatest passes text n → IsGreatest (λ bs. is_nil bs || passes bs) text n
  greatest-or-nil n law = record {
    passed = λ some. or_right (is_nil (take n text)) (passes (take n text)) (law.passed some);
    most = λ front rest is h. ⊎_elim (λ e. omega (arith, nil_empty front e)) (λ e. law.most front rest is e) (or_cases (is_nil front) (passes front) h);
    within = law.within;
  }

  -- the whole text passes where it is its own greatest front
  pub greatest-whole : (n : ℕ) → IsGreatest passes text n → 0 < length text → passes text ≡ (n == length text)
  greatest-whole n law some = ⊎_elim
      (λ h. h ∙ sym (eq-eqb n (length text) (omega (arith, law.within, law.most text [] (append-nil text) h))))
      (λ h. h ∙ sym (ne_eqb n (length text) (λ is. both_ways (passes text) h (at is))))
      (cases_Bool (passes text))
    where
      at : n ≡ length text → passes text ≡ true
      at is = subst (λ bs. passes bs ≡ true) (take_all n text (omega (arith, is))) (law.passed (omega (arith, is, some)))
