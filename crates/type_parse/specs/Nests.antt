-- Function values that read an initial value where fewer nodes may open than so many.
use Rattle.std.specs.Prelude.{ℕ, ◌<◌, List, Result}
use Rattle.std.specs.declared.alloc.Global.{Global}
use denote.Ref.{MutBor}
use Rattle.phrase.specs.declared.Stop.{Stop}
use Rattle.phrase.specs.Reads.{Reads}
use Rattle.plc_tokens.specs.declared.token.Token.{Token}
use Rattle.plc_tree.specs.declared.tree.Init.{Init}
use Rattle.type_parse.specs.Initials.{init}
use Rattle.type_parse.specs.Depth.{inner}

pub record Nests (most : ℕ) (pre : Global → MutBor (List Token) → ℕ → Type 0)
    (post : Global → MutBor (List Token) → ℕ → Result Init Stop → MutBor (List Token) → Type 0) : Type 0 where
  pub callable : (alloc : Global) (old : MutBor (List Token)) (room : ℕ) → room < most → pre alloc old room
  pub reads : (alloc : Global) (old new : MutBor (List Token)) (room : ℕ) (r : Result Init Stop) → room < most → post alloc old room r new
      → Reads ((init room (inner room)).run old.now) r new.now
