-- What the parsers answer, said of the tokens and the grammar alone.
use Rattle.std.specs.Prelude.{◌≡◌, ℕ, ◌+◌, List, ◌∷◌, ◌++◌, length, drop, Result, Ok, Err, ◌⊎◌}
use Rattle.plc_base.specs.declared.kind.Kind.{Kind}
use Rattle.plc_base.specs.declared.kind.Kind.TheVariants.{Word, Number, Truth, Span, Address, Symbol, Include, Left, End, Bad}
use Rattle.plc_tokens.specs.declared.token.Token.{Token}
use Rattle.plc_base.specs.declared.refusal.Refusal.{Refusal}
use Rattle.plc_base.specs.declared.refusal.Rule.{Rule}
use Rattle.plc_base.specs.declared.refusal.Rule.TheVariants.{G1, G2, U1}
use Rattle.plc_base.specs.declared.refusal.Stop.{Stop}
use Rattle.plc_base.specs.declared.refusal.Stop.TheVariants.{Refused, OutOfMemory}
use Rattle.phrase.specs.declared.Fault.{Fault}
use Rattle.phrase.specs.declared.Fault.TheVariants.{Wrong, Deep}
use Rattle.phrase.specs.Piece.{Sight, Piece}
use Rattle.phrase.specs.Exact.{Answer, Ends_at}
use Rattle.st_expr.specs.Nested.{Tall}

-- the rule that a token of a body breaks with which no phrase goes on
abbrev pub rule_at : Kind → Rule
rule_at (Bad rule) = rule
rule_at (Left word) = U1
rule_at (Address dir size numbers) = U1
rule_at (Word word) = G1
rule_at (Number value want) = G1
rule_at (Truth value) = G1
rule_at (Span ns) = G1
rule_at (Symbol place) = G1
rule_at (Include name) = G1
rule_at End = G1

-- the rule where a reading stops at a token
abbrev pub rule_of : Fault → Kind → Rule
rule_of Wrong k = rule_at k
rule_of Deep k = G2

module _ {S : Type 0} {sort : Sight Token S} {A : Type 0} (f : ℕ → Piece sort A) (room : ℕ) where
  -- from a token on, up to the next, the tokens spell the value, and no phrase begins with them and the next
  pub record IsRead (tokens : List Token) (from : ℕ) (value : A) (next : ℕ) : Type 0 where
    pub phrase : List Token
    pub after : List Token
    pub stands : drop from tokens ≡ phrase ++ after
    pub ends : next ≡ from + length phrase
    pub spells : (f room).lang phrase value
    pub longest : Ends_at f phrase after

  -- Why a token is refused behind some others: it stands at the front, that is the first token such that no phrase
  -- begins with those up to it, and those before it are no phrase; or it opens a node past the limit, which no token
  -- before it does, and stands before the front.
  abbrev pub IsReason : List Token → Token → List Token → Rule → Type 0
  IsReason before token after rule =
      ((rule ≡ rule_at token.kind) × Answer f room before (Err Wrong) (token ∷ after)) ⊎
      ((rule ≡ G2) × Answer f room before (Err Deep) (token ∷ after))

  pub record IsRefused (tokens : List Token) (from : ℕ) (r : Refusal) : Type 0 where
    pub before : List Token
    pub token : Token
    pub after : List Token
    pub stands : drop from tokens ≡ before ++ token ∷ after
    pub place : r.place ≡ token.place
    pub why : IsReason before token after r.rule

  -- the value and the number of the next token, or the refusal
  abbrev pub Parses : List Token → ℕ → Result (A × ℕ) Stop → Type 0
  Parses tokens from (Ok x) = IsRead tokens from x.0 x.1
  Parses tokens from (Err (Refused r)) = IsRefused tokens from r
  Parses tokens from (Err OutOfMemory) = Unit {0}

-- the same of a value with its height, of which the tree is answered
abbrev pub ParsesTree : {S : Type 0} {sort : Sight Token S} {A : Type 0} → (ℕ → Piece sort (Tall A)) → ℕ → List Token → ℕ → Result (A × ℕ) Stop → Type 0
ParsesTree f room tokens from (Ok x) = (height : ℕ) × IsRead f room tokens from (x.0, height) x.1
ParsesTree f room tokens from (Err (Refused r)) = IsRefused f room tokens from r
ParsesTree f room tokens from (Err OutOfMemory) = Unit {0}
