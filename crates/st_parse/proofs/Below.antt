-- What is known of the statements under one more node.
use Rattle.std.proofs.Common.{ℕ, Bool, true, false}
use Rattle.plc_tokens.specs.Sets as G
use Rattle.phrase.proofs.Rules.{Laws, Shape, Avoids}
use Rattle.st_expr.proofs.Below.{Below}
use Rattle.st_parse.specs.Nested.{Nested}

-- The laws of each phrase under one more node; on says that one more may open. The shapes hold at every number of nodes.
pub record BelowStmts (on : Bool) (d : ℕ) (x : ℕ → Nested) : Type 0 where
  pub inside : Below on d (λ e. (x e).inside)
  pub stmt : Laws on d false true G.FIRST_STMT G.LPAREN (λ e. (x e).stmt)
  pub stmt_shape : Shape false G.FIRST_STMT (λ e. (x e).stmt)
  pub stmt_not_label : Avoids G.NAME G.LABELLED (λ e. (x e).stmt)
