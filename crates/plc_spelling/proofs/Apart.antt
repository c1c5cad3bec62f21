-- Bytes of a class with single separators between, at the front of a text.
use Rattle.std.proofs.Common.{◌≡◌, ℕ, zero, suc, ◌+◌, ◌<◌, ◌≤◌, Bool, true, false, ◌&&◌, ◌==◌, nat_lt, nat_le, ◌≢◌, ◌⊎◌, inl, inr, ⊎_elim, List, [], ◌∷◌, ◌++◌, length, take, refl, sym, ap, subst, ◌∙◌, arith, one-add, if◌then◌else◌}
use Rattle.std.proofs.lemmas.Bool.{both_ways, cases_Bool, cases_eq, and_parts, lt-ltb, le-ltb, le-leb, lt-leb, ltb-true, eq-eqb, ne_eqb, cond-true, cond-false}
use Rattle.plc_spelling.specs.Text.{apart, IsGreatest}

module _ (class : ℕ → Bool) (separator : ℕ) where
  -- how far they reach
  pub reach : List ℕ → ℕ
  reach [] = 0
  reach (b ∷ []) = if class b then 1 else 0
  reach (b ∷ c ∷ bs) =
      if class b then (if c == separator then (if nat_lt 0 (reach bs) then suc (suc (reach bs)) else 1) else suc (reach (c ∷ bs)))
      else 0

  -- ---- it is the greatest

  passed : (text : List ℕ) → 0 < reach text → apart class separator (take (reach text) text) ≡ true
  unfolding reach
  passed [] some = absurd (omega arith)
  passed (b ∷ []) some = by (class b) refl some
    where
      by : (t : Bool) → class b ≡ t → 0 < (if t then 1 else 0) → apart class separator (take (if t then 1 else 0) (b ∷ [])) ≡ true
      by true e some = e
      by false e some = absurd (omega arith)
  passed (b ∷ c ∷ bs) some = by (class b) (c == separator) (nat_lt 0 (reach bs)) refl refl refl (passed bs) (passed (c ∷ bs)) some
    where
      by : (t s r : Bool) → class b ≡ t → (c == separator) ≡ s → nat_lt 0 (reach bs) ≡ r
          → (0 < reach bs → apart class separator (take (reach bs) bs) ≡ true)
          → (0 < reach (c ∷ bs) → apart class separator (take (reach (c ∷ bs)) (c ∷ bs)) ≡ true)
          → 0 < (if t then (if s then (if r then suc (suc (reach bs)) else 1) else suc (reach (c ∷ bs))) else 0)
          → apart class separator (take (if t then (if s then (if r then suc (suc (reach bs)) else 1) else suc (reach (c ∷ bs))) else 0) (b ∷ c ∷ bs)) ≡ true
      by false s r e f g behind next some = absurd (omega arith)
      by true true true e f g behind next some = rw (e, f, behind (ltb-true 0 (reach bs) g))
      by true true false e f g behind next some = e
      by true false r e f g behind next some = at (reach (c ∷ bs)) next
        where
          at : (n : ℕ) → (0 < n → apart class separator (take n (c ∷ bs)) ≡ true) → apart class separator (b ∷ take n (c ∷ bs)) ≡ true
          at zero next = e
          at (suc n) next = rw (e, f, next (omega arith))

  some_byte : (bs : List ℕ) → apart class separator bs ≡ true → 0 < length bs
  some_byte [] h = absurd (both_ways false refl h)
  some_byte (b ∷ bs) h = omega arith

  most : (front rest : List ℕ) → apart class separator front ≡ true → length front ≤ reach (front ++ rest)
  unfolding reach
  most [] rest h = omega arith
  most (b ∷ []) [] h = rw h (omega arith)
  most (b ∷ []) (c ∷ rest) h = rw h (by (c == separator) (nat_lt 0 (reach rest)))
    where
      by : (s r : Bool) → 1 ≤ (if s then (if r then suc (suc (reach rest)) else 1) else suc (reach (c ∷ rest)))
      by true true = omega arith
      by true false = omega arith
      by false r = omega arith
  most (b ∷ c ∷ front) rest h = rw parts.0 (by (c == separator) refl (most front rest) (most (c ∷ front) rest) parts.1)
    where
      parts : (class b ≡ true) × ((if c == separator then apart class separator front else apart class separator (c ∷ front)) ≡ true)
      parts = and_parts (class b) (if c == separator then apart class separator front else apart class separator (c ∷ front)) h

      by : (s : Bool) → (c == separator) ≡ s
          → (apart class separator front ≡ true → length front ≤ reach (front ++ rest))
          → (apart class separator (c ∷ front) ≡ true → suc (length front) ≤ reach (c ∷ (front ++ rest)))
          → (if s then apart class separator front else apart class separator (c ∷ front)) ≡ true
          → suc (suc (length front)) ≤ (if s then (if nat_lt 0 (reach (front ++ rest)) then suc (suc (reach (front ++ rest))) else 1) else suc (reach (c ∷ (front ++ rest))))
      by true e behind next h =
          let le : length front ≤ reach (front ++ rest) = behind h in
          let some : 0 < length front = some_byte front h in
          rw (lt-ltb 0 (reach (front ++ rest)) (omega (arith, le, some))) (omega (arith, le))
      by false e behind next h = omega (arith, next h)

  within : (text : List ℕ) → reach text ≤ length text
  unfolding reach
  within [] = omega arith
  within (b ∷ []) = by (class b)
    where
      by : (t : Bool) → (if t then 1 else 0) ≤ 1
      by true = omega arith
      by false = omega arith
  within (b ∷ c ∷ bs) = by (class b) (c == separator) (nat_lt 0 (reach bs)) (within bs) (within (c ∷ bs))
    where
      by : (t s r : Bool) → reach bs ≤ length bs → reach (c ∷ bs) ≤ suc (length bs)
          → (if t then (if s then (if r then suc (suc (reach bs)) else 1) else suc (reach (c ∷ bs))) else 0) ≤ suc (suc (length bs))
      by false s r behind next = omega arith
      by true true true behind next = omega arith
      by true true false behind next = omega arith
      by true false r behind next = omega arith

  pub reach-greatest : (text : List ℕ) → IsGreatest (apart class separator) text (reach text)
  reach-greatest text = record {
    passed = passed text;
    most = λ front rest is h. subst (λ bs. length front ≤ reach bs) is (most front rest h);
    within = within text;
  }

  -- ---- a walk that counts them

  -- what a walk finds from byte i on, with the last byte of the class before `size`
  pub walk : ℕ → ℕ → List ℕ → ℕ
  walk i size [] = size
  walk i size (b ∷ bs) =
      if class b then walk (i + 1) (i + 1) bs
      else (if (b == separator) && (nat_lt 0 size && nat_le i size) then walk (i + 1) size bs else size)

  pub walk-end : (i size : ℕ) → walk i size [] ≡ size
  unfolding walk
  walk-end i size = refl

  pub walk-class : (i size b : ℕ) (bs : List ℕ) → class b ≡ true → walk i size (b ∷ bs) ≡ walk (i + 1) (i + 1) bs
  unfolding walk
  walk-class i size b bs h = rw h

  pub walk-separator : (i size b : ℕ) (bs : List ℕ) → class b ≡ false → b ≡ separator → 0 < size → i ≤ size → walk i size (b ∷ bs) ≡ walk (i + 1) size bs
  unfolding walk
  walk-separator i size b bs h is some le = rw (h, eq-eqb b separator is, lt-ltb 0 size some, le-leb i size le)

  pub walk-other : (i size b : ℕ) (bs : List ℕ) → class b ≡ false → (b ≢ separator) ⊎ ((size ≡ 0) ⊎ (size < i)) → walk i size (b ∷ bs) ≡ size
  unfolding walk
  walk-other i size b bs h (inl other) = rw (h, ne_eqb b separator other)
  walk-other i size b bs h (inr (inl none)) = rw h (by (b == separator))
    where
      by : (s : Bool) → (if s && (nat_lt 0 size && nat_le i size) then walk (i + 1) size bs else size) ≡ size
      by true = rw (le-ltb 0 size (omega (arith, none)))
      by false = refl
  walk-other i size b bs h (inr (inr less)) = rw h (by (b == separator) (nat_lt 0 size))
    where
      by : (s r : Bool) → (if s && (r && nat_le i size) then walk (i + 1) size bs else size) ≡ size
      by true true = rw (lt-leb i size less)
      by true false = refl
      by false r = refl

  -- how far they reach behind a byte of the class
  behind : List ℕ → ℕ
  behind [] = 0
  behind (c ∷ bs) = if c == separator then (if nat_lt 0 (reach bs) then suc (reach bs) else 0) else reach (c ∷ bs)

  reach-nil : reach [] ≡ 0
  unfolding reach
  reach-nil = refl

  behind-nil : behind [] ≡ 0
  unfolding behind
  behind-nil = refl

  reach-cons : (b : ℕ) (bs : List ℕ) → reach (b ∷ bs) ≡ (if class b then suc (behind bs) else 0)
  unfolding reach behind
  reach-cons b [] = refl
  reach-cons b (c ∷ bs) = by (class b) (c == separator) (nat_lt 0 (reach bs))
    where
      by : (t s r : Bool) → (if t then (if s then (if r then suc (suc (reach bs)) else 1) else suc (reach (c ∷ bs))) else 0)
          ≡ (if t then suc (if s then (if r then suc (reach bs) else 0) else reach (c ∷ bs)) else 0)
      by true true true = refl
      by true true false = refl
      by true false r = refl
      by false s r = refl

  behind-class : (b : ℕ) (bs : List ℕ) → class separator ≡ false → class b ≡ true → behind (b ∷ bs) ≡ suc (behind bs)
  unfolding behind
  behind-class b bs not h =
      rw (ne_eqb b separator (λ is. both_ways (class b) (ap class is ∙ not) h)) (reach-cons b bs ∙ cond-true (class b) (suc (behind bs)) 0 h)

  reach-class : (b : ℕ) (bs : List ℕ) → class b ≡ true → reach (b ∷ bs) ≡ suc (behind bs)
  reach-class b bs h = reach-cons b bs ∙ cond-true (class b) (suc (behind bs)) 0 h

  reach-other : (b : ℕ) (bs : List ℕ) → class b ≡ false → reach (b ∷ bs) ≡ 0
  reach-other b bs h = reach-cons b bs ∙ cond-false (class b) (suc (behind bs)) 0 h

  behind-separator : (b : ℕ) (bs : List ℕ) → b ≡ separator → behind (b ∷ bs) ≡ (if nat_lt 0 (reach bs) then suc (reach bs) else 0)
  unfolding behind
  behind-separator b bs is = rw (eq-eqb b separator is)

  behind-other : (b : ℕ) (bs : List ℕ) → class b ≡ false → b ≢ separator → behind (b ∷ bs) ≡ 0
  unfolding behind
  behind-other b bs h other = rw (ne_eqb b separator other) (reach-other b bs h)

  -- the walk behind a byte of the class, and behind a separator
  abbrev Walks : List ℕ → ℕ → Type 0
  Walks bs i =
      (0 < i → walk i i bs ≡ i + behind bs)
      × ((size : ℕ) → 0 < size → size + 1 ≡ i → walk i size bs ≡ (if nat_lt 0 (reach bs) then i + reach bs else size))

  walks-nil : (i : ℕ) → Walks [] i
  walks-nil i = (λ some. walk-end i i ∙ rw behind-nil (omega arith), λ size some next. walk-end i size ∙ rw reach-nil refl)

  module _ (not : class separator ≡ false) where
    walks-cons : (b : ℕ) (bs : List ℕ) (i : ℕ) → Walks bs (i + 1) → Walks (b ∷ bs) i
    walks-cons b bs i rest = (
      λ some. ⊎_elim (λ h. digit h) (λ h. ⊎_elim (λ is. parted some h is) (λ other. ended h other) (cases_eq b separator)) (cases_Bool (class b)),
      λ size some next. ⊎_elim (λ h. digit_behind size h) (λ h. ended_behind size next h) (cases_Bool (class b)),
    )
      where
        digit : class b ≡ true → walk i i (b ∷ bs) ≡ i + behind (b ∷ bs)
        digit h = walk-class i i b bs h ∙ rest.0 (omega arith) ∙ rw (behind-class b bs not h) (omega arith)

        parted : 0 < i → class b ≡ false → b ≡ separator → walk i i (b ∷ bs) ≡ i + behind (b ∷ bs)
        parted some h is = walk-separator i i b bs h is some (omega arith) ∙ rest.1 i some refl ∙ rw (behind-separator b bs is) (by (nat_lt 0 (reach bs)))
          where
            by : (r : Bool) → (if r then i + 1 + reach bs else i) ≡ i + (if r then suc (reach bs) else 0)
            by true = omega arith
            by false = omega arith

        ended : class b ≡ false → b ≢ separator → walk i i (b ∷ bs) ≡ i + behind (b ∷ bs)
        ended h other = walk-other i i b bs h (inl other) ∙ rw (behind-other b bs h other) (omega arith)

        digit_behind : (size : ℕ) → class b ≡ true → walk i size (b ∷ bs) ≡ (if nat_lt 0 (reach (b ∷ bs)) then i + reach (b ∷ bs) else size)
        digit_behind size h = walk-class i size b bs h ∙ rest.0 (omega arith) ∙ rw (reach-class b bs h, lt-ltb 0 (suc (behind bs)) (omega arith)) (omega arith)

        ended_behind : (size : ℕ) → size + 1 ≡ i → class b ≡ false → walk i size (b ∷ bs) ≡ (if nat_lt 0 (reach (b ∷ bs)) then i + reach (b ∷ bs) else size)
        ended_behind size next h = walk-other i size b bs h (inr (inr (omega (arith, next)))) ∙ rw (reach-other b bs h) refl

    walks : (bs : List ℕ) (i : ℕ) → Walks bs i
    walks [] i = walks-nil i
    walks (b ∷ bs) i = walks-cons b bs i (walks bs (i + 1))

    pub walk-reach : (text : List ℕ) → walk 0 0 text ≡ reach text
    walk-reach [] = walk-end 0 0 ∙ sym reach-nil
    walk-reach (b ∷ bs) = ⊎_elim
        (λ h. walk-class 0 0 b bs h ∙ (walks bs 1).0 (omega arith) ∙ one-add (behind bs) ∙ sym (reach-class b bs h))
        (λ h. walk-other 0 0 b bs h (inr (inl refl)) ∙ sym (reach-other b bs h))
        (cases_Bool (class b))
