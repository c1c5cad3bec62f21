-- Comments, byte by byte.
use Rattle.std.proofs.Common.{◌≡◌, ℕ, zero, suc, ◌+◌, ◌-◌, ◌<◌, ◌≤◌, Bool, true, false, ◌&&◌, List, [], ◌∷◌, ◌++◌, length, take, drop, Option, Some, None, refl, ap, sym, subst, ◌∙◌, arith, length-drop, if◌then◌else◌, ⊎_elim}
use Rattle.std.specs.Option.{option_map}
use Rattle.std.proofs.lemmas.Bool.{cond_both, cond-true, cond-false, cases_Bool}
use Rattle.std.proofs.lemmas.List.{drop-drop}
use Rattle.plc_lex.specs.Comments.{opens, closes, inside, comment}

-- so many bytes more
abbrev pub more : ℕ → Option ℕ → Option ℕ
more n found = option_map (λ m. m + n) found

pub more-more : (found : Option ℕ) (m n : ℕ) → more m (more n found) ≡ more (m + n) found
more-more None m n = refl
more-more (Some k) m n = let e : k + n + m ≡ k + (m + n) = omega arith in ap Some e

pub two_left : (text : List ℕ) → closes text ≡ true → 2 ≤ length text
two_left [] h = absurd cc
two_left (b ∷ []) h = absurd cc
two_left (b ∷ c ∷ bs) h = omega arith

pub two_left_open : (text : List ℕ) → opens text ≡ true → 2 ≤ length text
two_left_open [] h = absurd cc
two_left_open (b ∷ []) h = absurd cc
two_left_open (b ∷ c ∷ bs) h = omega arith

module _ (nested : Bool) where
  pub inside-closed : (around : ℕ) (text : List ℕ) → closes text ≡ true → 0 < around → inside nested around text ≡ more 2 (inside nested (around - 1) (drop 2 text))
  inside-closed around [] h some = absurd cc
  inside-closed around (b ∷ []) h some = absurd cc
  inside-closed zero (b ∷ c ∷ bs) h some = absurd (omega arith)
  inside-closed (suc n) (b ∷ c ∷ bs) h some = let less : n ≡ suc n - 1 = omega arith in rw h (ap (λ k. more 2 (inside nested k bs)) less)

  pub inside-opened : (around : ℕ) (text : List ℕ) → closes text ≡ false → nested ≡ true → opens text ≡ true
      → inside nested around text ≡ more 2 (inside nested (around + 1) (drop 2 text))
  inside-opened around [] h on k = absurd cc
  inside-opened around (b ∷ []) h on k = absurd cc
  inside-opened around (b ∷ c ∷ bs) h on k =
      let both : (nested && opens (b ∷ c ∷ bs)) ≡ true = rw (on, k) in
      let one : suc around ≡ around + 1 = omega arith in
      rw (h, both) (ap (λ n. more 2 (inside nested n bs)) one)

  pub inside-further : (around : ℕ) (text : List ℕ) → closes text ≡ false → (nested && opens text) ≡ false → inside nested around text ≡ more 1 (inside nested around (drop 1 text))
  inside-further around [] h k = refl
  inside-further around (b ∷ []) h k = refl
  inside-further around (b ∷ c ∷ bs) h k = rw (h, k)

-- so many bytes of the comment are read, and then more of them
pub comment-step : (nested : Bool) (text : List ℕ) (size around next n : ℕ) → comment nested text ≡ more size (inside nested around (drop size text))
    → inside nested around (drop size text) ≡ more n (inside nested next (drop n (drop size text)))
    → comment nested text ≡ more (size + n) (inside nested next (drop (size + n) text))
comment-step nested text size around next n before step =
    before ∙ ap (more size) step ∙ more-more (inside nested next (drop n (drop size text))) size n
    ∙ ap (λ rest. more (size + n) (inside nested next rest)) (drop-drop n size text)

-- ---- a comment stands within the text

abbrev AtMost : ℕ → Option ℕ → Type 0
AtMost n None = Unit {0}
AtMost n (Some m) = m ≤ n

AtMost-more : (n m : ℕ) (found : Option ℕ) → AtMost n found → AtMost (n + m) (more m found)
AtMost-more n m None h = tt
AtMost-more n m (Some k) h = omega arith

inside-within : (nested : Bool) (around : ℕ) (text : List ℕ) → AtMost (length text) (inside nested around text)
inside-within nested around [] = tt
inside-within nested around (b ∷ []) = tt
inside-within nested around (b ∷ c ∷ bs) =
    let two : length bs + 2 ≡ length (b ∷ c ∷ bs) = omega arith in
    let one : length (c ∷ bs) + 1 ≡ length (b ∷ c ∷ bs) = omega arith in
    let behind : (n : ℕ) → AtMost (length (b ∷ c ∷ bs)) (more 2 (inside nested n bs)) =
    λ n. subst (λ m. AtMost m (more 2 (inside nested n bs))) two (AtMost-more (length bs) 2 (inside nested n bs) (inside-within nested n bs)) in
    let further : AtMost (length (b ∷ c ∷ bs)) (more 1 (inside nested around (c ∷ bs))) =
    subst (λ m. AtMost m (more 1 (inside nested around (c ∷ bs)))) one (AtMost-more (length (c ∷ bs)) 1 (inside nested around (c ∷ bs)) (inside-within nested around (c ∷ bs))) in
    cond_both (closes (b ∷ c ∷ bs)) _ _ (AtMost (length (b ∷ c ∷ bs)))
    (λ _. elim around as (λ n. AtMost (length (b ∷ c ∷ bs)) (elim n [ zero ↦ Some 2 | suc n ↦ more 2 (inside nested n bs) ])) [ zero ↦ omega arith | suc n ↦ behind n ])
    (λ _. cond_both (nested && opens (b ∷ c ∷ bs)) _ _ (AtMost (length (b ∷ c ∷ bs))) (λ _. behind (suc around)) (λ _. further))

-- how many bytes a comment has
pub record IsWithin (n : ℕ) (text : List ℕ) : Type 0 where
  pub some : 0 < n
  pub within : n ≤ length text

pub comment-within : (nested : Bool) (text : List ℕ) (n : ℕ) → opens text ≡ true → comment nested text ≡ Some n → IsWithin n text
unfolding comment
comment-within nested text n begins is = at_found (inside nested 0 (drop 2 text)) (inside-within nested 0 (drop 2 text)) is
  where
    at_found : (found : Option ℕ) → AtMost (length (drop 2 text)) found → more 2 found ≡ Some n → IsWithin n text
    at_found None h k = absurd cc
    at_found (Some m) h k =
        let same : m + 2 ≡ n = cc in
        let two = two_left_open text begins in
        record { some = omega arith; within = omega (arith, length-drop 2 text) }

-- a comment that begins here and ends
pub record IsComment (nested : Bool) (text : List ℕ) (n : ℕ) : Type 0 where
  pub opened : opens text ≡ true
  pub is : comment nested text ≡ Some n
  pub size : IsWithin n text

pub comment-found : (nested : Bool) (text : List ℕ) (n : ℕ) → (if opens text then comment nested text else None) ≡ Some n → IsComment nested text n
comment-found nested text n is = ⊎_elim
    (λ opened.
    let here : comment nested text ≡ Some n = sym (cond-true (opens text) (comment nested text) None opened) ∙ is in
    record { opened = opened; is = here; size = comment-within nested text n opened here })
    (λ none. absurd (let i : None ≡ Some n = sym (cond-false (opens text) (comment nested text) None none) ∙ is in cc))
    (cases_Bool (opens text))

-- ---- a comment and its bytes

-- a comment has two bytes at least
comment-two : (nested : Bool) (text : List ℕ) (n : ℕ) → comment nested text ≡ Some n → 2 ≤ n
unfolding comment
comment-two nested text n is = at_found (inside nested 0 (drop 2 text)) is
  where
    at_found : (found : Option ℕ) → more 2 found ≡ Some n → 2 ≤ n
    at_found None k = absurd cc
    at_found (Some m) k = let same : m + 2 ≡ n = cc in omega arith

opens-take : (text : List ℕ) (n : ℕ) → 2 ≤ n → opens (take n text) ≡ opens text
opens-take text zero h = absurd (omega arith)
opens-take text (suc zero) h = absurd (omega arith)
opens-take [] (suc (suc n)) h = refl
opens-take (b ∷ []) (suc (suc n)) h = refl
opens-take (b ∷ c ∷ bs) (suc (suc n)) h = refl

-- so its own bytes begin as one
pub comment-opens : (nested : Bool) (text : List ℕ) (n : ℕ) → opens text ≡ true → comment nested text ≡ Some n → opens (take n text) ≡ true
comment-opens nested text n opened is = opens-take text n (comment-two nested text n is) ∙ opened

pub opens-append : (front rest : List ℕ) → opens front ≡ true → opens (front ++ rest) ≡ true
opens-append [] rest h = absurd cc
opens-append (b ∷ []) rest h = absurd cc
opens-append (b ∷ c ∷ bs) rest h = h
