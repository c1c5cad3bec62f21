-- Function values that read an expression under one more node, where at most so many nodes may open.
use Rattle.std.specs.Prelude.{ℕ, ◌-◌, ◌<◌, ◌≤◌, Bool, List, Result, IfOk}
use Rattle.std.specs.declared.alloc.Global.{Global}
use denote.Ref.{MutBor}
use Rattle.phrase.specs.declared.Stop.{Stop}
use Rattle.phrase.specs.Reads.{Reads}
use Rattle.plc_tokens.specs.declared.token.Token.{Token}
use Rattle.plc_tree.specs.declared.tree.Expr.{Expr}
use Rattle.st_expr.specs.declared.level.Level.{Level}
use Rattle.st_expr.specs.Nested.{Tall}
use Rattle.st_expr.specs.Depth.{deep}

pub record Nests (most : ℕ) (pre : Global → MutBor (List Token) → ℕ → Level → Bool → Type 0)
    (post : Global → MutBor (List Token) → ℕ → Level → Bool → Result (Tall Expr) Stop → MutBor (List Token) → Type 0) : Type 0 where
  pub callable : (alloc : Global) (old : MutBor (List Token)) (room : ℕ) (level : Level) (line : Bool) → 0 < room → room ≤ most → pre alloc old (room - 1) level line
  pub reads : (alloc : Global) (old new : MutBor (List Token)) (room : ℕ) (level : Level) (line : Bool) (r : Result (Tall Expr) Stop) → 0 < room → room ≤ most
      → post alloc old (room - 1) level line r new → Reads (((deep room).operand level line).run old.now) r new.now
  pub low : (alloc : Global) (old new : MutBor (List Token)) (room : ℕ) (level : Level) (line : Bool) (r : Result (Tall Expr) Stop) → 0 < room → room ≤ most
      → post alloc old (room - 1) level line r new → IfOk r (λ x. x.1 < room)
