-- The longest spelling at the front of a text.
use Rattle.std.specs.Prelude.{◌≡◌, ℕ, ◌≤◌, true, List, ◌++◌, length, take, ◌⊎◌}
use Rattle.plc_base.specs.declared.kind.Kind.{Kind}
use Rattle.plc_base.specs.declared.kind.Kind.TheVariants.{Bad}
use Rattle.plc_base.specs.declared.refusal.Rule.TheVariants.{L1}
use Rattle.plc_spelling.specs.Spelling.{is_spelling, kind_of}

-- these bytes spell this
pub record Spells (bytes : List ℕ) (kind : Kind) : Type 0 where
  pub is : is_spelling bytes ≡ true
  pub kind_is : kind ≡ kind_of bytes

-- no front spells a token
abbrev pub NoSpelling : List ℕ → Type 0
NoSpelling text = (front rest : List ℕ) → front ++ rest ≡ text → is_spelling front ≡ true → ⊥

-- the first bytes spell this, or nothing is spelled
abbrev pub Spelled : List ℕ → Kind → ℕ → Type 0
Spelled text kind size = Spells (take size text) kind ⊎ ((kind ≡ Bad L1) × NoSpelling text)

-- the longest spelling at the front of a text
pub record IsLongest (text : List ℕ) (kind : Kind) (size : ℕ) : Type 0 where
  pub spelled : Spelled text kind size
  pub longest : (front rest : List ℕ) → front ++ rest ≡ text → is_spelling front ≡ true → length front ≤ size
  pub within : size ≤ length text
