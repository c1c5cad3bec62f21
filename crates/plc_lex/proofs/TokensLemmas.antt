-- The tokens of a text, step by step.
use Rattle.std.proofs.Common.{◌≡◌, ℕ, zero, suc, ◌+◌, ◌-◌, ◌<◌, ◌≤◌, Bool, true, false, cond, ◌||◌, ◌==◌, List, [], ◌∷◌, length, take, drop, get_or, refl, ap, sym, subst, ◌∙◌, arith, length-take, Option, Some, None, if◌then◌else◌, ⊎_elim}
use Rattle.std.proofs.lemmas.Bool.{cases_Bool, cond-true, cond-false, and_parts, eqb-true}
use Rattle.std.proofs.lemmas.List.{drop_more}
use Rattle.plc_base.specs.declared.refusal.Place.{Place}
use Rattle.plc_base.specs.declared.kind.Kind.{Kind}
use Rattle.plc_tokens.specs.declared.token.Token.{Token}
use Rattle.plc_base.specs.declared.refusal.Rule.TheVariants.{L1, L2}
use Rattle.plc_base.specs.declared.kind.Kind.TheVariants.{Bad}
use Rattle.plc_lex.specs.Comments.{opens, comment}
use Rattle.plc_spelling.specs.Spelling.{is_spelling, kind_of, size, first_kind}
use Rattle.plc_spelling.specs.Text.{is_blank}
use Rattle.plc_lex.specs.Tokens.{HasRoom, past, past_all, numbered, token, bad, ends, has_break, tokens_from}
use Rattle.plc_lex.proofs.CommentsLemmas.{IsWithin, comment-within}
use Rattle.plc_spelling.proofs.Greatest.{longest-greatest}

-- room for a byte more
pub HasRoom-past : (b : ℕ) (at : Place) (n : ℕ) → HasRoom at (n + 1) → HasRoom (past b at) n
HasRoom-past b at n h = elim (b == 10) as (λ line_feed. HasRoom (cond line_feed (record at { line = at.line + 1; col = 1 }) (record at { col = at.col + 1 })) n) [
  | true ↦ record { line = omega arith; col = omega arith; token = omega arith }
  | false ↦ record { line = omega arith; col = omega arith; token = omega arith }
]

past-token : (b : ℕ) (at : Place) → (past b at).token ≡ at.token
past-token b at = elim (b == 10) as (λ line_feed. (cond line_feed (record at { line = at.line + 1; col = 1 }) (record at { col = at.col + 1 })).token ≡ at.token) [ true ↦ refl | false ↦ refl ]

pub past_all-token : (bs : List ℕ) (at : Place) → (past_all bs at).token ≡ at.token
past_all-token [] at = refl
past_all-token (b ∷ bs) at = past_all-token bs (past b at) ∙ past-token b at

past-file : (b : ℕ) (at : Place) → (past b at).file ≡ at.file
past-file b at = elim (b == 10) as (λ line_feed. (cond line_feed (record at { line = at.line + 1; col = 1 }) (record at { col = at.col + 1 })).file ≡ at.file) [ true ↦ refl | false ↦ refl ]

pub past_all-file : (bs : List ℕ) (at : Place) → (past_all bs at).file ≡ at.file
past_all-file [] at = refl
past_all-file (b ∷ bs) at = past_all-file bs (past b at) ∙ past-file b at

numbered_later : (b : ℕ) (at : Place) → past b (numbered at) ≡ numbered (past b at)
numbered_later b at = elim (b == 10) as (λ line_feed. cond line_feed (record (numbered at) { line = at.line + 1; col = 1 }) (record (numbered at) { col = at.col + 1 })
    ≡ numbered (cond line_feed (record at { line = at.line + 1; col = 1 }) (record at { col = at.col + 1 }))) [ true ↦ refl | false ↦ refl ]

pub past_all-numbered : (bs : List ℕ) (at : Place) → past_all bs (numbered at) ≡ numbered (past_all bs at)
past_all-numbered [] at = refl
past_all-numbered (b ∷ bs) at = ap (past_all bs) (numbered_later b at) ∙ past_all-numbered bs (past b at)

HasRoom-past_all : (bs : List ℕ) (at : Place) (n : ℕ) → HasRoom at (length bs + n) → HasRoom (past_all bs at) n
HasRoom-past_all [] at n h = record { line = omega arith; col = omega arith; token = omega arith }
HasRoom-past_all (b ∷ bs) at n h =
    let more : HasRoom at ((length bs + n) + 1) = record { line = omega arith; col = omega arith; token = omega arith } in
    HasRoom-past_all bs (past b at) n (HasRoom-past b at (length bs + n) more)

-- room behind a token, which has a byte at least
pub HasRoom-token : (bs : List ℕ) (at : Place) (n : ℕ) → HasRoom at (length bs + n) → 0 < length bs → HasRoom (numbered (past_all bs at)) n
HasRoom-token bs at n h some =
    let room = HasRoom-past_all bs at n h in
    record { line = room.line; col = room.col; token = omega (arith, past_all-token bs at, h.token) }

-- room behind a comment
pub HasRoom-behind : (bs : List ℕ) (at to : Place) (size : ℕ) → HasRoom at (length bs) → size ≤ length bs → to ≡ past_all (take size bs) at → HasRoom to (length bs - size)
HasRoom-behind bs at to size h within is =
    let part : length (take size bs) ≡ size = omega (arith, length-take size bs) in
    let all : length (take size bs) + (length bs - size) ≡ length bs = omega arith in
    subst (λ p. HasRoom p (length bs - size)) (sym is) (HasRoom-past_all (take size bs) at (length bs - size) (subst (HasRoom at) (sym all) h))

-- and behind a token
pub HasRoom-after : (bs : List ℕ) (at to : Place) (size : ℕ) → HasRoom at (length bs) → 0 < size → size ≤ length bs → to ≡ past_all (take size bs) at
    → HasRoom (numbered to) (length bs - size)
HasRoom-after bs at to size h some within is =
    let part : length (take size bs) ≡ size = omega (arith, length-take size bs) in
    let all : length (take size bs) + (length bs - size) ≡ length bs = omega arith in
    subst (λ p. HasRoom (numbered p) (length bs - size)) (sym is)
    (HasRoom-token (take size bs) at (length bs - size) (subst (HasRoom at) (sym all) h) (omega arith))

-- ---- the token at a place

-- how far the longest spelling reaches
pub size-within : (text : List ℕ) → size text ≤ length text
unfolding size
size-within text = (longest-greatest is_spelling text).within

pub kind_of-nil : kind_of [] ≡ Bad L1
kind_of-nil = refl

-- no spelling is empty
size-some : (b : ℕ) (bs : List ℕ) → ends (first_kind (b ∷ bs)) ≡ false → 0 < size (b ∷ bs)
size-some b bs = at_size (size (b ∷ bs))
  where
    at_size : (n : ℕ) → ends (kind_of (take n (b ∷ bs))) ≡ false → 0 < n
    at_size zero e = absurd (let i : ends (kind_of []) ≡ true = ap ends kind_of-nil in cc)
    at_size (suc n) e = omega arith

-- the kind and the length of the longest spelling, and of what stands there, which may be a comment without an end
abbrev first : List ℕ → Kind × ℕ
first text = (first_kind text, size text)

abbrev pub front : List ℕ → Kind × ℕ
front text = if opens text then (Bad L2, 0) else first text

front-first : (text : List ℕ) (kind : Kind) (n : ℕ) → (kind, n) ≡ front text → ends kind ≡ false → (opens text ≡ false) × ((kind, n) ≡ first text)
front-first text kind n is e = ⊎_elim
    (λ opened. absurd (let i : ends kind ≡ true = ap (λ x. ends x.0) (is ∙ cond-true (opens text) (Bad L2, 0) (first text) opened) in cc))
    (λ none. (none, is ∙ cond-false (opens text) (Bad L2, 0) (first text) none))
    (cases_Bool (opens text))

-- a token that goes on has a byte, and they are of the text
pub front-within : (text : List ℕ) (kind : Kind) (n : ℕ) → (kind, n) ≡ front text → ends kind ≡ false → IsWithin n text
front-within [] kind n is e = absurd (let i : ends kind ≡ true = ap (λ x. ends x.0) is in cc)
front-within (b ∷ bs) kind n is e =
    let (none, same) = front-first (b ∷ bs) kind n is e in
    let length_is : n ≡ size (b ∷ bs) = ap (λ x. x.1) same in
    let kind_is : ends (first_kind (b ∷ bs)) ≡ false = sym (ap (λ x. ends x.0) same) ∙ e in
    record { some = omega (arith, size-some b bs kind_is); within = omega (arith, size-within (b ∷ bs)) }

-- ---- the tokens, step by step

module _ (nested : Bool) where
  pub tokens_from-blank : (b : ℕ) (bs : List ℕ) (at : Place) (fresh : Bool) → is_blank b ≡ true
      → tokens_from nested (b ∷ bs) at fresh 0 ≡ tokens_from nested bs (past b at) (fresh || (b == 10)) 0
  unfolding tokens_from
  tokens_from-blank b bs at fresh h = rw (h, tokens_from)

  -- the bytes of a token or a comment that was told
  pub tokens_from-skip : (bs : List ℕ) (at : Place) (fresh : Bool) (n : ℕ) → n ≤ length bs
      → tokens_from nested bs at fresh n ≡ tokens_from nested (drop n bs) (past_all (take n bs) at) fresh 0
  unfolding tokens_from
  tokens_from-skip bs at fresh zero h = refl
  tokens_from-skip [] at fresh (suc n) h = absurd (omega arith)
  tokens_from-skip (b ∷ bs) at fresh (suc n) h = tokens_from-skip bs (past b at) fresh n (omega arith)

  -- a blank in the middle
  pub tokens_from-blank_at : (bs : List ℕ) (i b : ℕ) (at : Place) (fresh : Bool) → i < length bs → b ≡ get_or bs i 0 → is_blank b ≡ true
      → tokens_from nested (drop i bs) at fresh 0 ≡ tokens_from nested (drop (i + 1) bs) (past b at) (fresh || (b == 10)) 0
  tokens_from-blank_at bs i b at fresh h is blank =
      ap (λ xs. tokens_from nested xs at fresh 0) (drop_more bs i 0 h ∙ ap (λ a. a ∷ drop (i + 1) bs) (sym is)) ∙ tokens_from-blank b (drop (i + 1) bs) at fresh blank

  -- a comment, and what stands behind it
  tokens_from-opens : (b : ℕ) (bs : List ℕ) (at : Place) (fresh : Bool) (found : Option ℕ) → is_blank b ≡ false → opens (b ∷ bs) ≡ true → comment nested (b ∷ bs) ≡ found
      → tokens_from nested (b ∷ bs) at fresh 0 ≡ elim found [
        | None ↦ bad L2 at fresh ∷ []
        | Some n ↦ tokens_from nested bs (past b at) (fresh || has_break (take n (b ∷ bs))) (n - 1)
      ]
  unfolding tokens_from
  tokens_from-opens b bs at fresh found h opened is = rw (h, opened, is, tokens_from)

  pub opens-no_blank : (b : ℕ) (bs : List ℕ) → opens (b ∷ bs) ≡ true → is_blank b ≡ false
  opens-no_blank b [] h = absurd cc
  opens-no_blank b (c ∷ bs) h = let is : b ≡ 40 = eqb-true b 40 ((and_parts (b == 40) (c == 42) h).0) in ap is_blank is

  pub tokens_from-comment : (text : List ℕ) (at : Place) (fresh : Bool) (n : ℕ) → opens text ≡ true → comment nested text ≡ Some n
      → tokens_from nested text at fresh 0 ≡ tokens_from nested (drop n text) (past_all (take n text) at) (fresh || has_break (take n text)) 0
  tokens_from-comment [] at fresh n opened is = absurd cc
  tokens_from-comment (b ∷ bs) at fresh zero opened is = absurd (let w = comment-within nested (b ∷ bs) 0 opened is in omega (arith, w.some))
  tokens_from-comment (b ∷ bs) at fresh (suc n) opened is =
      let w = comment-within nested (b ∷ bs) (suc n) opened is in
      let less : suc n - 1 ≡ n = omega arith in
      let break : Bool = fresh || has_break (b ∷ take n bs) in
      tokens_from-opens b bs at fresh (Some (suc n)) (opens-no_blank b bs opened) opened is
      ∙ ap (tokens_from nested bs (past b at) break) less
      ∙ tokens_from-skip bs (past b at) break n (omega (arith, w.within))

  pub tokens_from-unfinished : (text : List ℕ) (at : Place) (fresh : Bool) → opens text ≡ true → comment nested text ≡ None → tokens_from nested text at fresh 0 ≡ bad L2 at fresh ∷ []
  tokens_from-unfinished [] at fresh opened is = absurd cc
  tokens_from-unfinished (b ∷ bs) at fresh opened is = tokens_from-opens b bs at fresh None (opens-no_blank b bs opened) opened is

  -- a token, and those behind it, of which its bytes are skipped
  abbrev Rest : ℕ → List ℕ → Place → Kind × ℕ → List Token
  Rest b bs at x = elim (ends x.0) [ true ↦ [] | false ↦ tokens_from nested bs (past b (numbered at)) false (x.1 - 1) ]

  tokens_from-first : (b : ℕ) (bs : List ℕ) (at : Place) (fresh : Bool) (kind : Kind) (n : ℕ) → is_blank b ≡ false → opens (b ∷ bs) ≡ false → (kind, n) ≡ first (b ∷ bs)
      → tokens_from nested (b ∷ bs) at fresh 0 ≡ token kind (take n (b ∷ bs)) at fresh ∷ Rest b bs at (kind, n)
  unfolding tokens_from
  tokens_from-first b bs at fresh kind n h none is =
      let step : tokens_from nested (b ∷ bs) at fresh 0 ≡ token (first_kind (b ∷ bs)) (take (size (b ∷ bs)) (b ∷ bs)) at fresh ∷ Rest b bs at (first (b ∷ bs)) = rw (h, none, tokens_from) in
      step ∙ ap (λ x. token x.0 (take x.1 (b ∷ bs)) at fresh ∷ Rest b bs at x) (sym is)

  -- a token that ends the list
  pub tokens_from-last : (bs : List ℕ) (at : Place) (fresh : Bool) (kind : Kind) (n : ℕ) → (0 < length bs → is_blank (get_or bs 0 0) ≡ false)
      → (if opens bs then comment nested bs else None) ≡ None → (kind, n) ≡ front bs → ends kind ≡ true → tokens_from nested bs at fresh 0 ≡ token kind (take n bs) at fresh ∷ []
  unfolding tokens_from
  tokens_from-last [] at fresh kind n h none is e = ap (λ x. token x.0 (take x.1 []) at fresh ∷ []) (sym is)
  tokens_from-last (b ∷ bs) at fresh kind n h none is e = ⊎_elim
      (λ opened.
      let unfinished : comment nested (b ∷ bs) ≡ None = sym (cond-true (opens (b ∷ bs)) (comment nested (b ∷ bs)) None opened) ∙ none in
      let same : ◌≡◌ {A = Kind × ℕ} (kind, n) (Bad L2, 0) = is ∙ cond-true (opens (b ∷ bs)) (Bad L2, 0) (first (b ∷ bs)) opened in
      tokens_from-unfinished (b ∷ bs) at fresh opened unfinished ∙ ap (λ x. token x.0 (take x.1 (b ∷ bs)) at fresh ∷ []) (sym same))
      (λ closed.
      let same : (kind, n) ≡ first (b ∷ bs) = is ∙ cond-false (opens (b ∷ bs)) (Bad L2, 0) (first (b ∷ bs)) closed in
      tokens_from-first b bs at fresh kind n (h (omega arith)) closed same
      ∙ ap (λ (t : Bool). token kind (take n (b ∷ bs)) at fresh ∷ elim t [ true ↦ [] | false ↦ tokens_from nested bs (past b (numbered at)) false (n - 1) ]) e)
      (cases_Bool (opens (b ∷ bs)))

  -- a token, and those behind it
  pub tokens_from-next : (bs : List ℕ) (at : Place) (fresh : Bool) (kind : Kind) (n : ℕ) → (0 < length bs → is_blank (get_or bs 0 0) ≡ false) → (kind, n) ≡ front bs → ends kind ≡ false
      → tokens_from nested bs at fresh 0 ≡ token kind (take n bs) at fresh ∷ tokens_from nested (drop n bs) (numbered (past_all (take n bs) at)) false 0
  tokens_from-next [] at fresh kind n h is e = absurd (let w = front-within [] kind n is e in omega (arith, w.some, w.within))
  tokens_from-next (b ∷ bs) at fresh kind zero h is e = absurd (let w = front-within (b ∷ bs) kind 0 is e in omega (arith, w.some))
  tokens_from-next (b ∷ bs) at fresh kind (suc n) h is e =
      let (none, same) = front-first (b ∷ bs) kind (suc n) is e in
      let within = (front-within (b ∷ bs) kind (suc n) is e).within in
      let less : suc n - 1 ≡ n = omega arith in
      let here : Token = token kind (b ∷ take n bs) at fresh in
      tokens_from-first b bs at fresh kind (suc n) (h (omega arith)) none same
      ∙ ap (λ (t : Bool). here ∷ elim t [ true ↦ [] | false ↦ tokens_from nested bs (past b (numbered at)) false (suc n - 1) ]) e
      ∙ ap (λ m. here ∷ tokens_from nested bs (past b (numbered at)) false m) less
      ∙ ap (λ ts. here ∷ ts) (tokens_from-skip bs (past b (numbered at)) false n (omega (arith, within)))
      ∙ ap (λ p. here ∷ tokens_from nested (drop n bs) p false 0) (past_all-numbered (b ∷ take n bs) at)
