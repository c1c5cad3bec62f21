-- What is known of the tokens of a source.
use Rattle.std.proofs.Common.{◌≡◌, refl, ℕ, ◌≤◌, List, [], ◌∷◌, length, Bool, true, false, arith}
use Rattle.std.specs.Prelude.{nat_lt, if◌then◌else◌}
use Rattle.std.proofs.lemmas.Bool.Decides.{nat_tests}
use Rattle.plc_tokens.specs.declared.token.Token.{Token}
use Rattle.plc_base.specs.declared.refusal.Rule.TheVariants.{L6}
use Rattle.plc_tokens.specs.Tokens.{IsClosed, bad_only}
use Rattle.plc_lex.specs.Names.{HaveNames, AreSorted}
use Rattle.plc_lex.specs.Tokens.{lexed}
use Rattle.plc_lex.proofs.Laws.{lexed-names, lexed-sorted, lexed-length, lexed-has_end}
use Rattle.decl_parse.specs.Shapes.{EveryToken}
use Rattle.plc_top.specs.Decision.{source_tokens}
use Rattle.plc_top.specs.Words.{IsKnown}

-- a source is too long, or its text is cut into tokens
by_length : (source : List ℕ) (P : List Token → Type 0) → P (bad_only 0 L6) → (length source ≤ 4194304 → P (lexed source 0 false)) → P (source_tokens source)
by_length source P long short = by (nat_lt 4194304 (length source)) refl
  where
    by : (b : Bool) → nat_lt 4194304 (length source) ≡ b → P (if b then bad_only 0 L6 else lexed source 0 false)
    by true e = long
    by false e = short (grind (arith, nat_tests))

-- the last token ends the list
pub closed : (source : List ℕ) → IsClosed (source_tokens source)
closed source = by_length source IsClosed (record { tokens = []; last = _; all = refl; ends = refl }) (λ h. lexed-has_end source 0 false)

-- ---- each token is known, and there are few

every_known : (w : List Token) → HaveNames w → AreSorted w → EveryToken IsKnown w
every_known [] h k = tt
every_known (t ∷ w) h k = ((h.0, k.0), every_known w h.1 k.1)

-- each token of a text is known
pub lexed_known : (text : List ℕ) (file : ℕ) (nested : Bool) → EveryToken IsKnown (lexed text file nested)
lexed_known text file nested = every_known (lexed text file nested) (lexed-names text file nested) (lexed-sorted text file nested)

pub known : (source : List ℕ) → EveryToken IsKnown (source_tokens source)
known source = by_length source (EveryToken IsKnown) ((tt, refl), tt) (λ h. lexed_known source 0 false)

pub few_tokens : (source : List ℕ) → length (source_tokens source) ≤ 4194305
few_tokens source = by_length source (λ ts. length ts ≤ 4194305) (omega arith) (λ h. omega (arith, h, lexed-length source 0 false))
