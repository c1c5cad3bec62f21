-- Function values that read a statement under one more node, where so many nodes may open.
use Rattle.std.specs.Prelude.{ℕ, ◌-◌, ◌<◌, List, Result}
use Rattle.std.specs.declared.alloc.Global.{Global}
use denote.Ref.{MutBor}
use Rattle.phrase.specs.declared.Stop.{Stop}
use Rattle.phrase.specs.Reads.{Reads}
use Rattle.plc_tokens.specs.declared.token.Token.{Token}
use Rattle.plc_tree.specs.declared.tree.Stmt.{Stmt}
use Rattle.st_parse.specs.Depth.{stmt_under}

pub record Nests (room : ℕ) (pre : Global → MutBor (List Token) → ℕ → Type 0)
    (post : Global → MutBor (List Token) → ℕ → Result Stmt Stop → MutBor (List Token) → Type 0) : Type 0 where
  pub callable : (alloc : Global) (old : MutBor (List Token)) → 0 < room → pre alloc old (room - 1)
  pub reads : (alloc : Global) (old new : MutBor (List Token)) (r : Result Stmt Stop) → 0 < room → post alloc old (room - 1) r new
      → Reads ((stmt_under room).run old.now) r new.now
