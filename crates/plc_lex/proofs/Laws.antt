-- Laws on the tokens of a text.
use Rattle.std.proofs.Common.{◌≡◌, ℕ, zero, suc, ◌+◌, ◌<◌, ◌≤◌, Bool, true, false, ◌||◌, ◌==◌, List, [], ◌∷◌, ◌++◌, length, take, drop, Option, Some, None, inl, inr, refl, sym, ap, subst, ◌∙◌, arith, length-take, if◌then◌else◌, ⊎_elim}
use Rattle.std.proofs.lemmas.Bool.{cases_Bool, both_ways, cond-false}
use Rattle.std.proofs.lemmas.List.{length-append, take-append-drop}
use Rattle.std.proofs.Math.Seq.{take-append_seam, drop-append_seam}
use Rattle.plc_base.specs.declared.refusal.Place.{Place}
use Rattle.plc_base.specs.declared.refusal.Rule.{Rule}
use Rattle.plc_base.specs.declared.refusal.Rule.TheVariants.{L2}
use Rattle.plc_base.specs.declared.kind.Kind.{Kind}
use Rattle.plc_base.specs.declared.kind.Kind.TheVariants.{Word, Number, Truth, Span, Address, Symbol, Include, Left, End, Bad}
use Rattle.plc_tokens.specs.declared.token.Token.{Token}
use Rattle.plc_lex.specs.Comments.{opens, comment}
use Rattle.plc_tokens.specs.Tokens.{IsClosed, is_last}
use Rattle.plc_tokens.proofs.Ends.{last_sort}
use Rattle.plc_lex.specs.Lexes.{Lexes, BeginsToken, Closed, Numbered}
use Rattle.plc_lex.specs.Lexes.Lexes.{finished, blank, commented, unfinished, spelled, no_token}
use Rattle.plc_lex.specs.Names.{HaveNames, AreSorted}
use Rattle.plc_spelling.specs.Spelling.{is_spelling, kind_of, size, first_kind}
use Rattle.plc_spelling.specs.Spells.{Spells, Spelled, IsLongest}
use Rattle.plc_spelling.specs.Text.{is_blank, longest}
use Rattle.plc_lex.specs.Tokens.{past, past_all, numbered, token, bad, start, ends, has_break, tokens_from, lexed}
use Rattle.plc_lex.proofs.CommentsLemmas.{comment-within, comment-opens, opens-append}
use Rattle.plc_spelling.proofs.Greatest.{longest-greatest}
use Rattle.plc_lex.proofs.Names.{IsSpelt, HasName-spelt, spelt-kind}
use Rattle.plc_lex.proofs.TokensLemmas.{kind_of-nil, front, tokens_from-blank, tokens_from-comment, tokens_from-unfinished, tokens_from-last, tokens_from-next, tokens_from-skip, past_all-numbered, past_all-token, past_all-file}

-- ---- the longest spelling

no_spelling : (front : List ℕ) → length front ≤ 0 → is_spelling front ≡ false
no_spelling [] h = refl
no_spelling (b ∷ bs) h = absurd (omega arith)

-- a number of bytes that no longer spelling passes
spelled-at : (text : List ℕ) (n : ℕ) → (0 < n → is_spelling (take n text) ≡ true) → ((front rest : List ℕ) → front ++ rest ≡ text → is_spelling front ≡ true → length front ≤ n)
    → Spelled text (kind_of (take n text)) n
spelled-at text zero passed most = inr (kind_of-nil, λ front rest is h. both_ways (is_spelling front) (no_spelling front (most front rest is h)) h)
spelled-at text (suc n) passed most = inl (record { is = passed (omega arith); kind_is = refl })

-- the first token is the longest spelling
pub first-longest : (b : ℕ) (bs : List ℕ) → IsLongest (b ∷ bs) (first_kind (b ∷ bs)) (size (b ∷ bs))
unfolding size
first-longest b bs =
    let greatest = longest-greatest is_spelling (b ∷ bs) in
    record { spelled = spelled-at (b ∷ bs) (longest is_spelling (b ∷ bs)) greatest.passed greatest.most; longest = greatest.most; within = greatest.within }

-- a spelling of the text is no longer than the longest
spelled-least : (text : List ℕ) (kind other : Kind) (m n : ℕ) → Spells (take m text) kind → m ≤ length text → IsLongest text other n → m ≤ n
spelled-least text kind other m n spells within law = omega (arith, law.longest (take m text) (drop m text) (take-append-drop m text) spells.is, length-take m text)

-- a text has one longest spelling at its front, or none
IsLongest-kind : (text : List ℕ) (kind other : Kind) (m n : ℕ) → IsLongest text kind m → IsLongest text other n → kind ≡ other
IsLongest-kind text kind other m n law more = ⊎_elim
    (λ spells. ⊎_elim
    (λ again.
    let le = spelled-least text kind other m n spells law.within more in
    let ge = spelled-least text other kind n m again more.within law in
    let same : m ≡ n = omega arith in
    spells.kind_is ∙ ap (λ k. kind_of (take k text)) same ∙ sym again.kind_is)
    (λ none. absurd (none.1 (take m text) (drop m text) (take-append-drop m text) spells.is))
    more.spelled)
    (λ none. ⊎_elim
    (λ again. absurd (none.1 (take n text) (drop n text) (take-append-drop n text) again.is))
    (λ neither. none.0 ∙ sym neither.0)
    more.spelled)
    law.spelled

-- what goes on is spelled
IsLongest-spells : (text : List ℕ) (kind : Kind) (m : ℕ) → IsLongest text kind m → ends kind ≡ false → Spells (take m text) kind
IsLongest-spells text kind m law goes_on = ⊎_elim (λ spells. spells) (λ none. absurd (both_ways (ends kind) goes_on (ap ends none.0))) law.spelled

IsLongest-some : (text : List ℕ) (kind : Kind) (m : ℕ) → IsLongest text kind m → ends kind ≡ false → 0 < m
IsLongest-some text kind zero law goes_on = absurd (both_ways (is_spelling []) refl (IsLongest-spells text kind 0 law goes_on).is)
IsLongest-some text kind (suc m) law goes_on = omega arith

IsLongest-size : (text : List ℕ) (kind other : Kind) (m n : ℕ) → IsLongest text kind m → ends kind ≡ false → IsLongest text other n → m ≡ n
IsLongest-size text kind other m n law goes_on more =
    let same = IsLongest-kind text kind other m n law more in
    let le = spelled-least text kind other m n (IsLongest-spells text kind m law goes_on) law.within more in
    let ge = spelled-least text other kind n m (IsLongest-spells text other n more (sym (ap ends same) ∙ goes_on)) more.within law in
    omega arith

-- what the longest spelling spells
spelt-longest : (text : List ℕ) (kind : Kind) (m : ℕ) → IsLongest text kind m → IsSpelt kind
spelt-longest text kind m law = ⊎_elim (λ spells. subst IsSpelt (sym spells.kind_is) (spelt-kind (take m text))) (λ none. subst IsSpelt (sym none.0) tt) law.spelled

-- ---- the tokens follow the relation

module _ (nested : Bool) where
  -- what stands behind a token or a comment of which a byte is read
  abbrev Behind : List ℕ → Place → Bool → Type 0
  Behind bs at fresh = (m : ℕ) → Lexes nested (drop m bs) (past_all (take m bs) at) fresh (tokens_from nested bs at fresh m)

  -- so many bytes, and what stands behind them
  behind_all : (bs : List ℕ) (at : Place) (fresh : Bool) (m : ℕ) → m ≤ length bs → Behind bs at fresh
      → Lexes nested (drop m bs) (past_all (take m bs) at) fresh (tokens_from nested (drop m bs) (past_all (take m bs) at) fresh 0)
  behind_all bs at fresh m within behind = subst (Lexes nested (drop m bs) (past_all (take m bs) at) fresh) (tokens_from-skip nested bs at fresh m within) (behind m)

  lexes-spelled : (b : ℕ) (bs : List ℕ) (at : Place) (fresh : Bool) (kind : Kind) (n : ℕ) → BeginsToken (b ∷ bs) → IsLongest (b ∷ bs) kind n → ends kind ≡ false
      → Behind bs (past b (numbered at)) false
      → Lexes nested (b ∷ bs) at fresh (token kind (take n (b ∷ bs)) at fresh ∷ tokens_from nested (drop n (b ∷ bs)) (numbered (past_all (take n (b ∷ bs)) at)) false 0)
  lexes-spelled b bs at fresh kind zero begins law goes_on behind = absurd (let some = IsLongest-some (b ∷ bs) kind 0 law goes_on in omega arith)
  lexes-spelled b bs at fresh kind (suc m) begins law goes_on behind =
      let text : List ℕ = b ∷ bs in
      let front : List ℕ = take (suc m) text in
      let within : suc m ≤ length text = law.within in
      let all : front ++ drop (suc m) text ≡ text = take-append-drop (suc m) text in
      let size_is : length front ≡ suc m = omega (arith, length-take (suc m) text) in
      let there : Lexes nested (drop m bs) (numbered (past_all front at)) false (tokens_from nested (drop m bs) (numbered (past_all front at)) false 0) =
      subst (λ p. Lexes nested (drop m bs) p false (tokens_from nested (drop m bs) p false 0)) (past_all-numbered front at)
      (behind_all bs (past b (numbered at)) false m (omega arith) behind) in
      let here : IsLongest (front ++ drop (suc m) text) kind (length front) =
      subst (λ xs. IsLongest xs kind (length front)) (sym all) (subst (IsLongest text kind) (sym size_is) law) in
      subst (λ xs. Lexes nested xs at fresh (token kind front at fresh ∷ tokens_from nested (drop m bs) (numbered (past_all front at)) false 0)) all
      (spelled front (drop (suc m) text) at fresh kind _ (subst BeginsToken (sym all) begins) here goes_on there)

  lexes-last : (text : List ℕ) (at : Place) (fresh : Bool) (kind : Kind) (n : ℕ) → 0 < length text → BeginsToken text → IsLongest text kind n → ends kind ≡ true
      → Lexes nested text at fresh (token kind (take n text) at fresh ∷ [])
  lexes-last text at fresh End n some begins law e = absurd (spelt-longest text End n law)
  lexes-last text at fresh (Bad rule) n some begins law e = no_token text at fresh rule n some begins law
  lexes-last text at fresh (Word name) n some begins law e = absurd cc
  lexes-last text at fresh (Number value want) n some begins law e = absurd cc
  lexes-last text at fresh (Truth value) n some begins law e = absurd cc
  lexes-last text at fresh (Span value) n some begins law e = absurd cc
  lexes-last text at fresh (Address dir size numbers) n some begins law e = absurd cc
  lexes-last text at fresh (Symbol number) n some begins law e = absurd cc
  lexes-last text at fresh (Include name) n some begins law e = absurd cc
  lexes-last text at fresh (Left name) n some begins law e = absurd cc

  -- where neither a blank nor a comment begins
  front_of : (text : List ℕ) → opens text ≡ false → ◌≡◌ {A = Kind × ℕ} (first_kind text, size text) (front text)
  front_of text none = sym (cond-false (opens text) (Bad L2, 0) (first_kind text, size text) none)

  no_comment : (text : List ℕ) → opens text ≡ false → (if opens text then comment nested text else None) ≡ None
  no_comment text none = cond-false (opens text) (comment nested text) None none

  lexes-first : (b : ℕ) (bs : List ℕ) (at : Place) (fresh : Bool) → BeginsToken (b ∷ bs) → Behind bs (past b (numbered at)) false
      → Lexes nested (b ∷ bs) at fresh (tokens_from nested (b ∷ bs) at fresh 0)
  lexes-first b bs at fresh begins behind =
      let text : List ℕ = b ∷ bs in
      let law = first-longest b bs in
      let kind : Kind = first_kind text in
      let is = front_of text begins.no_comment in
      ⊎_elim
      (λ e. subst (Lexes nested text at fresh) (sym (tokens_from-last nested text at fresh kind (size text) (λ _. begins.no_blank) (no_comment text begins.no_comment) is e))
      (lexes-last text at fresh kind (size text) (omega arith) begins law e))
      (λ e. subst (Lexes nested text at fresh) (sym (tokens_from-next nested text at fresh kind (size text) (λ _. begins.no_blank) is e))
      (lexes-spelled b bs at fresh kind (size text) begins law e behind))
      (cases_Bool (ends kind))

  lexes-comment : (b : ℕ) (bs : List ℕ) (at : Place) (fresh : Bool) (found : Option ℕ) → opens (b ∷ bs) ≡ true → comment nested (b ∷ bs) ≡ found
      → ((later : Bool) → Behind bs (past b at) later) → Lexes nested (b ∷ bs) at fresh (tokens_from nested (b ∷ bs) at fresh 0)
  lexes-comment b bs at fresh None opened is behind =
      subst (Lexes nested (b ∷ bs) at fresh) (sym (tokens_from-unfinished nested (b ∷ bs) at fresh opened is)) (unfinished (b ∷ bs) at fresh opened is)
  lexes-comment b bs at fresh (Some zero) opened is behind = absurd (let w = comment-within nested (b ∷ bs) 0 opened is in omega (arith, w.some))
  lexes-comment b bs at fresh (Some (suc m)) opened is behind =
      let text : List ℕ = b ∷ bs in
      let front : List ℕ = take (suc m) text in
      let w = comment-within nested text (suc m) opened is in
      let within : suc m ≤ length text = w.within in
      let all : front ++ drop (suc m) text ≡ text = take-append-drop (suc m) text in
      let size_is : length front ≡ suc m = omega (arith, length-take (suc m) text) in
      let later : Bool = fresh || has_break front in
      let there = behind_all bs (past b at) later m (omega arith) (behind later) in
      let here : comment nested (front ++ drop (suc m) text) ≡ Some (length front) = ap (comment nested) all ∙ is ∙ ap Some (sym size_is) in
      subst (Lexes nested text at fresh) (sym (tokens_from-comment nested text at fresh (suc m) opened is))
      (subst (λ xs. Lexes nested xs at fresh (tokens_from nested (drop m bs) (past_all front at) later 0)) all
      (commented front (drop (suc m) text) at fresh _ (comment-opens nested text (suc m) opened is) here there))

  tokens_from-lexes : (bs : List ℕ) (at : Place) (fresh : Bool) (skip : ℕ) → Lexes nested (drop skip bs) (past_all (take skip bs) at) fresh (tokens_from nested bs at fresh skip)
  unfolding tokens_from
  tokens_from-lexes [] at fresh zero = finished at fresh
  tokens_from-lexes [] at fresh (suc skip) = finished at fresh
  tokens_from-lexes (b ∷ bs) at fresh (suc skip) = tokens_from-lexes bs (past b at) fresh skip
  tokens_from-lexes (b ∷ bs) at fresh zero =
      let blanks = tokens_from-lexes bs (past b at) (fresh || (b == 10)) zero in
      let token_behind : Behind bs (past b (numbered at)) false = λ m. tokens_from-lexes bs (past b (numbered at)) false m in
      let comment_behind : (later : Bool) → Behind bs (past b at) later = λ later m. tokens_from-lexes bs (past b at) later m in
      ⊎_elim
      (λ e. subst (Lexes nested (b ∷ bs) at fresh) (sym (tokens_from-blank nested b bs at fresh e)) (blank b bs at fresh _ e blanks))
      (λ e. ⊎_elim
      (λ opened. lexes-comment b bs at fresh (comment nested (b ∷ bs)) opened refl comment_behind)
      (λ none. lexes-first b bs at fresh (record { no_blank = e; no_comment = none }) token_behind)
      (cases_Bool (opens (b ∷ bs))))
      (cases_Bool (is_blank b))

-- the tokens are the longest spellings, one after the other
pub lexed-lexes : (text : List ℕ) (file : ℕ) (nested : Bool) → Lexes nested text (start file) false (lexed text file nested)
unfolding lexed
lexed-lexes text file nested = tokens_from-lexes nested text (start file) false 0

-- ---- what the relation says of a list

closed_more : (t : Token) (ts : List Token) → ends t.kind ≡ false → Closed ts → Closed (t ∷ ts)
closed_more t [] e h = absurd h
closed_more t (u ∷ ts) e h = (e, h)

-- numbers go on behind bytes
numbered_behind : (bs : List ℕ) (at : Place) (next : ℕ → ℕ) (tokens : List Token) → Numbered (past_all bs at).file (next (past_all bs at).token) tokens
    → Numbered at.file (next at.token) tokens
numbered_behind bs at next tokens h =
    subst (λ n. Numbered at.file (next n) tokens) (past_all-token bs at) (subst (λ file. Numbered file (next (past_all bs at).token) tokens) (past_all-file bs at) h)

module _ {nested : Bool} where
  Lexes-closed : {text : List ℕ} {at : Place} {fresh : Bool} {tokens : List Token} → Lexes nested text at fresh tokens → Closed tokens
  Lexes-closed (finished at fresh) = refl
  Lexes-closed (blank b text at fresh tokens is rest) = Lexes-closed rest
  Lexes-closed (commented front text at fresh tokens opened is rest) = Lexes-closed rest
  Lexes-closed (unfinished text at fresh opened is) = refl
  Lexes-closed (spelled front text at fresh kind tokens begins law goes_on rest) = closed_more (token kind front at fresh) tokens goes_on (Lexes-closed rest)
  Lexes-closed (no_token text at fresh rule n some begins law) = refl

  Lexes-numbered : {text : List ℕ} {at : Place} {fresh : Bool} {tokens : List Token} → Lexes nested text at fresh tokens → Numbered at.file at.token tokens
  Lexes-numbered (finished at fresh) = (refl, refl, tt)
  Lexes-numbered (blank b text at fresh tokens is rest) = numbered_behind (b ∷ []) at (λ n. n) tokens (Lexes-numbered rest)
  Lexes-numbered (commented front text at fresh tokens opened is rest) = numbered_behind front at (λ n. n) tokens (Lexes-numbered rest)
  Lexes-numbered (unfinished text at fresh opened is) = (refl, refl, tt)
  Lexes-numbered (spelled front text at fresh kind tokens begins law goes_on rest) = (refl, refl, numbered_behind front at (λ n. n + 1) tokens (Lexes-numbered rest))
  Lexes-numbered (no_token text at fresh rule n some begins law) = (refl, refl, tt)

  Lexes-length : {text : List ℕ} {at : Place} {fresh : Bool} {tokens : List Token} → Lexes nested text at fresh tokens → length tokens ≤ length text + 1
  Lexes-length (finished at fresh) = omega arith
  Lexes-length (blank b text at fresh tokens is rest) = omega (arith, Lexes-length rest)
  Lexes-length (commented front text at fresh tokens opened is rest) = omega (arith, Lexes-length rest, length-append front text)
  Lexes-length (unfinished text at fresh opened is) = omega arith
  Lexes-length (spelled front text at fresh kind tokens begins law goes_on rest) =
      omega (arith, Lexes-length rest, length-append front text, IsLongest-some (front ++ text) kind (length front) law goes_on)
  Lexes-length (no_token text at fresh rule n some begins law) = omega arith

  Lexes-names : {text : List ℕ} {at : Place} {fresh : Bool} {tokens : List Token} → Lexes nested text at fresh tokens → HaveNames tokens
  Lexes-names (finished at fresh) = (tt, tt)
  Lexes-names (blank b text at fresh tokens is rest) = Lexes-names rest
  Lexes-names (commented front text at fresh tokens opened is rest) = Lexes-names rest
  Lexes-names (unfinished text at fresh opened is) = (tt, tt)
  Lexes-names (spelled front text at fresh kind tokens begins law goes_on rest) = (HasName-spelt kind (spelt-longest (front ++ text) kind (length front) law), Lexes-names rest)
  Lexes-names (no_token text at fresh rule n some begins law) = (tt, tt)

  Lexes-sorted : {text : List ℕ} {at : Place} {fresh : Bool} {tokens : List Token} → Lexes nested text at fresh tokens → AreSorted tokens
  Lexes-sorted (finished at fresh) = (refl, tt)
  Lexes-sorted (blank b text at fresh tokens is rest) = Lexes-sorted rest
  Lexes-sorted (commented front text at fresh tokens opened is rest) = Lexes-sorted rest
  Lexes-sorted (unfinished text at fresh opened is) = (refl, tt)
  Lexes-sorted (spelled front text at fresh kind tokens begins law goes_on rest) = (refl, Lexes-sorted rest)
  Lexes-sorted (no_token text at fresh rule n some begins law) = (refl, tt)

-- the last token ends the list, and no other does
pub lexed-closed : (text : List ℕ) (file : ℕ) (nested : Bool) → Closed (lexed text file nested)
lexed-closed text file nested = Lexes-closed (lexed-lexes text file nested)

-- the sorts of tokens are those of their kinds
pub lexed-sorted : (text : List ℕ) (file : ℕ) (nested : Bool) → AreSorted (lexed text file nested)
lexed-sorted text file nested = Lexes-sorted (lexed-lexes text file nested)

-- such a list has an end, with tokens before it
is_closed : (tokens : List Token) → AreSorted tokens → Closed tokens → IsClosed tokens
is_closed [] k h = absurd h
is_closed (t ∷ []) k h = record { tokens = []; last = t; all = refl; ends = ap is_last k.0 ∙ last_sort t.kind h }
is_closed (t ∷ u ∷ ts) k h = let c = is_closed (u ∷ ts) k.1 h.1 in record { tokens = t ∷ c.tokens; last = c.last; all = ap (λ us. t ∷ us) c.all; ends = c.ends }

pub lexed-has_end : (text : List ℕ) (file : ℕ) (nested : Bool) → IsClosed (lexed text file nested)
lexed-has_end text file nested = is_closed (lexed text file nested) (lexed-sorted text file nested) (lexed-closed text file nested)

-- the tokens are numbered from 0
pub lexed-numbered : (text : List ℕ) (file : ℕ) (nested : Bool) → Numbered file 0 (lexed text file nested)
lexed-numbered text file nested = Lexes-numbered (lexed-lexes text file nested)

-- there is at most a token for each byte, and the end
pub lexed-length : (text : List ℕ) (file : ℕ) (nested : Bool) → length (lexed text file nested) ≤ length text + 1
lexed-length text file nested = Lexes-length (lexed-lexes text file nested)

-- the names of tokens are words in capitals
pub lexed-names : (text : List ℕ) (file : ℕ) (nested : Bool) → HaveNames (lexed text file nested)
lexed-names text file nested = Lexes-names (lexed-lexes text file nested)

-- ---- and no other list follows it

module _ (nested : Bool) where
  last-only : (text : List ℕ) (at : Place) (fresh : Bool) (rule : Rule) (n : ℕ) → 0 < length text → BeginsToken text → IsLongest text (Bad rule) n
      → tokens_from nested text at fresh 0 ≡ bad rule at fresh ∷ []
  last-only [] at fresh rule n some begins law = absurd (omega arith)
  last-only (b ∷ bs) at fresh rule n some begins law =
      let text : List ℕ = b ∷ bs in
      let is : first_kind text ≡ Bad rule = IsLongest-kind text (first_kind text) (Bad rule) (size text) n (first-longest b bs) law in
      tokens_from-last nested text at fresh (first_kind text) (size text) (λ _. begins.no_blank) (no_comment nested text begins.no_comment) (front_of nested text begins.no_comment) (ap ends is)
      ∙ ap (λ k. token k (take (size text) text) at fresh ∷ []) is

  comment-only : (front rest : List ℕ) (at : Place) (fresh : Bool) (tokens : List Token) → opens front ≡ true → comment nested (front ++ rest) ≡ Some (length front)
      → tokens_from nested rest (past_all front at) (fresh || has_break front) 0 ≡ tokens → tokens_from nested (front ++ rest) at fresh 0 ≡ tokens
  comment-only front rest at fresh tokens opened is same =
      tokens_from-comment nested (front ++ rest) at fresh (length front) (opens-append front rest opened) is
      ∙ ap (λ xs. tokens_from nested xs (past_all (take (length front) (front ++ rest)) at) (fresh || has_break (take (length front) (front ++ rest))) 0) (drop-append_seam front rest)
      ∙ ap (λ xs. tokens_from nested rest (past_all xs at) (fresh || has_break xs) 0) (take-append_seam front rest)
      ∙ same

  spelled-only : (text start rest : List ℕ) (at : Place) (fresh : Bool) (kind : Kind) (tokens : List Token) → text ≡ start ++ rest → BeginsToken text → IsLongest text kind (length start)
      → ends kind ≡ false → tokens_from nested rest (numbered (past_all start at)) false 0 ≡ tokens → tokens_from nested text at fresh 0 ≡ token kind start at fresh ∷ tokens
  spelled-only [] start rest at fresh kind tokens whole begins law goes_on same = absurd (let some = IsLongest-some [] kind (length start) law goes_on in omega (arith, law.within))
  spelled-only (b ∷ bs) start rest at fresh kind tokens whole begins law goes_on same =
      let text : List ℕ = b ∷ bs in
      let ours = first-longest b bs in
      let size_is : length start ≡ size text = IsLongest-size text kind (first_kind text) (length start) (size text) law goes_on ours in
      let kind_is : kind ≡ first_kind text = IsLongest-kind text kind (first_kind text) (length start) (size text) law ours in
      let first_is : ◌≡◌ {A = Kind × ℕ} (kind, length start) (first_kind text, size text) = λ i. (kind_is i, size_is i) in
      let here : take (length start) text ≡ start = ap (take (length start)) whole ∙ take-append_seam start rest in
      let behind : drop (length start) text ≡ rest = ap (drop (length start)) whole ∙ drop-append_seam start rest in
      tokens_from-next nested text at fresh kind (length start) (λ _. begins.no_blank) (first_is ∙ front_of nested text begins.no_comment) goes_on
      ∙ ap (λ xs. token kind xs at fresh ∷ tokens_from nested (drop (length start) text) (numbered (past_all xs at)) false 0) here
      ∙ ap (λ xs. token kind start at fresh ∷ tokens_from nested xs (numbered (past_all start at)) false 0) behind
      ∙ ap (λ ts. token kind start at fresh ∷ ts) same

Lexes-only : {nested : Bool} {text : List ℕ} {at : Place} {fresh : Bool} {tokens : List Token} → Lexes nested text at fresh tokens → tokens_from nested text at fresh 0 ≡ tokens
unfolding tokens_from
Lexes-only (finished at fresh) = refl
Lexes-only {nested = nested} (blank b text at fresh tokens is rest) = tokens_from-blank nested b text at fresh is ∙ Lexes-only rest
Lexes-only {nested = nested} (commented front text at fresh tokens opened is rest) = comment-only nested front text at fresh tokens opened is (Lexes-only rest)
Lexes-only {nested = nested} (unfinished text at fresh opened is) = tokens_from-unfinished nested text at fresh opened is
Lexes-only {nested = nested} (spelled front text at fresh kind tokens begins law goes_on rest) =
    spelled-only nested (front ++ text) front text at fresh kind tokens refl begins law goes_on (Lexes-only rest)
Lexes-only {nested = nested} (no_token text at fresh rule n some begins law) = last-only nested text at fresh rule n some begins law

-- no other list is that of a text
pub lexed-only : (text : List ℕ) (file : ℕ) (nested : Bool) (tokens : List Token) → Lexes nested text (start file) false tokens → lexed text file nested ≡ tokens
unfolding lexed
lexed-only text file nested tokens h = Lexes-only h
