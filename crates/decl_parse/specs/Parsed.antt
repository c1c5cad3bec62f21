-- What a list of tokens spells, and where one that spells nothing goes wrong, said of the grammar alone.
use Rattle.std.specs.Prelude.{◌≡◌, ℕ, ◌-◌, List, ◌∷◌, [], ◌++◌, length, take, Result, Ok, Err, Some, ◌⊎◌}
use Rattle.plc_tokens.specs.declared.token.Token.{Token}
use Rattle.plc_base.specs.declared.refusal.Refusal.{Refusal}
use Rattle.plc_base.specs.declared.refusal.Rule.TheVariants.{G2}
use Rattle.plc_base.specs.declared.refusal.Stop.{Stop}
use Rattle.plc_base.specs.declared.refusal.Stop.TheVariants.{Refused, OutOfMemory}
use Rattle.plc_tree.specs.declared.tree.Unit.{Unit as Source}
use Rattle.plc_tokens.specs.Sorts.{first_of}
use Rattle.phrase.specs.Piece.{Viable, Within}
use Rattle.phrase.specs.Exact.{Phrase, NonePasses, OnlyPasses}
use Rattle.decl_parse.specs.Sources.{source, closed}
use Rattle.decl_parse.specs.Places.{rule_behind}
use Rattle.plc_tokens.specs.declared.sort.Form.TheVariants as form
use Rattle.plc_tokens.specs.declared.sort.Sort.TheVariants.{Form}

-- how many nodes may be open, one in another
abbrev pub MOST : ℕ
MOST = 64

-- these tokens, of which none is the end, spell the source, with any number of nodes
abbrev pub SpellsUnit : List Token → Source → Type 0
SpellsUnit w u = Phrase source w u

-- the tokens of the source, in which no more nodes are open than may be, and then the end
pub record IsAccepted (s : List Token) (u : Source) : Type 0 where
  pub tokens : List Token
  pub last : Token
  pub all : s ≡ tokens ++ last ∷ []
  pub ends : last.sort ≡ Form form.End
  pub spells : (source MOST).lang tokens u

-- the first token such that no source and its end begin with the tokens up to it, where no token of the list opens a
-- node past the limit
abbrev pub IsFront : List Token → Token → List Token → Type 0
IsFront before token after = Within closed MOST before × (Viable closed (before ++ token ∷ []) → ⊥) × NonePasses closed MOST (before ++ token ∷ after)

-- the token that opens a node past the limit, behind tokens that were read within it; a source can go on with it
abbrev pub IsTooDeep : List Token → Token → List Token → Type 0
IsTooDeep before token after = Within closed MOST before × (closed MOST).over before (token ∷ after) × Viable closed (before ++ token ∷ []) × OnlyPasses closed MOST (before ++ token ∷ after) before

-- one of the tokens is refused, at the front by the rule of its place, or by G2
pub record IsRefused (s : List Token) (r : Refusal) : Type 0 where
  pub before : List Token
  pub token : Token
  pub after : List Token
  pub all : s ≡ before ++ token ∷ after
  pub place : r.place ≡ token.place
  pub why : ((r.rule ≡ rule_behind before token token.kind) × IsFront before token after) ⊎ ((r.rule ≡ G2) × IsTooDeep before token after)

-- the refusal at the next of the tokens that are left of a list, by the rule of its place
pub record IsAtFront (s rest : List Token) (r : Refusal) : Type 0 where
  pub token : Token
  pub next : first_of rest ≡ Some token
  pub rule : r.rule ≡ rule_behind (take (length s - length rest) s) token token.kind
  pub place : r.place ≡ token.place

-- a tree that is accepted, or the refusal
abbrev pub ParsesUnit : List Token → Result Source Stop → Type 0
ParsesUnit s (Ok u) = IsAccepted s u
ParsesUnit s (Err (Refused r)) = IsRefused s r
ParsesUnit s (Err OutOfMemory) = Unit {0}
