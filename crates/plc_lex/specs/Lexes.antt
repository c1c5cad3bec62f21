-- What the tokens of a text are: blanks, comments and the longest spellings one after the other, to the end or to the first that is no token.
use Rattle.std.specs.Prelude.{◌≡◌, ℕ, ◌+◌, Bool, true, false, ◌||◌, ◌==◌, List, [], ◌∷◌, ◌++◌, length, get_or, ◌<◌, Some, None}
use Rattle.plc_base.specs.declared.refusal.Place.{Place}
use Rattle.plc_base.specs.declared.refusal.Rule.{Rule}
use Rattle.plc_base.specs.declared.refusal.Rule.TheVariants.{L2}
use Rattle.plc_base.specs.declared.kind.Kind.{Kind}
use Rattle.plc_base.specs.declared.kind.Kind.TheVariants.{End, Bad}
use Rattle.plc_tokens.specs.declared.token.Token.{Token}
use Rattle.plc_lex.specs.Comments.{opens, comment}
use Rattle.plc_spelling.specs.Spells.{IsLongest}
use Rattle.plc_spelling.specs.Text.{is_blank}
use Rattle.plc_lex.specs.Tokens.{past, past_all, numbered, token, bad, ends, has_break}

-- neither a blank nor a comment begins there
pub record BeginsToken (text : List ℕ) : Type 0 where
  pub no_blank : is_blank (get_or text 0 0) ≡ false
  pub no_comment : opens text ≡ false

-- the text that begins at a place has these tokens; `fresh`: a line feed stands between it and the token before
pub data Lexes (nested : Bool) : List ℕ → Place → Bool → List Token → Type 0 where
  finished : (at : Place) (fresh : Bool) → Lexes nested [] at fresh (token End [] at fresh ∷ [])
  blank : (b : ℕ) (text : List ℕ) (at : Place) (fresh : Bool) (tokens : List Token) → is_blank b ≡ true
      → Lexes nested text (past b at) (fresh || (b == 10)) tokens → Lexes nested (b ∷ text) at fresh tokens
  commented : (front rest : List ℕ) (at : Place) (fresh : Bool) (tokens : List Token) → opens front ≡ true → comment nested (front ++ rest) ≡ Some (length front)
      → Lexes nested rest (past_all front at) (fresh || has_break front) tokens → Lexes nested (front ++ rest) at fresh tokens
  unfinished : (text : List ℕ) (at : Place) (fresh : Bool) → opens text ≡ true → comment nested text ≡ None
      → Lexes nested text at fresh (bad L2 at fresh ∷ [])
  spelled : (front rest : List ℕ) (at : Place) (fresh : Bool) (kind : Kind) (tokens : List Token) → BeginsToken (front ++ rest)
      → IsLongest (front ++ rest) kind (length front) → ends kind ≡ false
      → Lexes nested rest (numbered (past_all front at)) false tokens → Lexes nested (front ++ rest) at fresh (token kind front at fresh ∷ tokens)
  no_token : (text : List ℕ) (at : Place) (fresh : Bool) (rule : Rule) (size : ℕ) → 0 < length text → BeginsToken text → IsLongest text (Bad rule) size
      → Lexes nested text at fresh (bad rule at fresh ∷ [])

-- the last token ends the list, and no other does
abbrev pub Closed : List Token → Type 0
Closed [] = ⊥
Closed (t ∷ []) = ends t.kind ≡ true
Closed (t ∷ u ∷ ts) = (ends t.kind ≡ false) × Closed (u ∷ ts)

-- the tokens of a file are numbered from here
abbrev pub Numbered : ℕ → ℕ → List Token → Type 0
Numbered file n [] = Unit {0}
Numbered file n (t ∷ ts) = (t.place.file ≡ file) × (t.place.token ≡ n) × Numbered file (n + 1) ts
