-- What is known of the initial values under one more node.
use Rattle.std.proofs.Common.{ℕ, Bool, true, false, List, ◌++◌}
use Rattle.plc_tokens.specs.Sets as G
use Rattle.plc_tokens.specs.declared.sort.Seen.{Seen}
use Rattle.phrase.proofs.Rules.{Laws}
use Rattle.type_parse.specs.Inner.{Inner}

-- what may follow an element of a list: "#" behind a name, and "(" behind an integer
abbrev pub more_item : List Seen
more_item = G.HASH ++ G.LPAREN

-- The laws of each phrase under one more node; on says that one more may open.
pub record BelowInits (on : Bool) (d : ℕ) (x : ℕ → Inner) : Type 0 where
  pub init : Laws on d false true G.FIRST_INIT G.HASH (λ e. (x e).init)
  pub item : Laws on d false true G.FIRST_INIT more_item (λ e. (x e).item)
