-- How high typed trees are: a literal and a variable have 0, an operator, a parenthesis and a statement with
-- statements in it have one more than their highest part.
use Rattle.std.specs.Prelude.{ℕ, ◌+◌, max, List, [], ◌∷◌, Option, Some, None}
use Rattle.plc_tree.specs.declared.typed.TExpr.{TExpr, Number, Truth, Var, Paren', Unary', Binary', Row_of-TExpr, end_of-TExpr, more_of-TExpr}
use Rattle.plc_tree.specs.declared.typed.TStmt.{TStmt, Empty, Set, If', Case', For', While', Repeat', Exit, Return, Row_of-TStmt, end_of-TStmt, more_of-TStmt, Row_of-TArm, end_of-TArm, more_of-TArm, Row_of-TChoice, end_of-TChoice, more_of-TChoice}
use Rattle.plc_tree.specs.declared.typed.TBody.{TBody}
use Rattle.plc_tree.specs.declared.typed.TBody.TheVariants.{St}

abbrev mutual
  pub height : TExpr → ℕ
  height (Number z ty) = 0
  height (Truth b ty) = 0
  height (Var p ty) = 0
  height (Paren' ty h inner) = height_one inner + 1
  height (Unary' op ty h inner) = height_one inner + 1
  height (Binary' op ty h l k r) = max (height_one l) (height_one r) + 1

  pub height_one : {m : _} → Row_of-TExpr m → ℕ
  height_one end_of-TExpr = 0
  height_one (more_of-TExpr e rest) = height e

abbrev pub height_if_any : Option TExpr → ℕ
height_if_any None = 0
height_if_any (Some e) = height e

abbrev mutual
  pub stmt_height : TStmt → ℕ
  stmt_height Empty = 0
  stmt_height (Set to from) = height from
  stmt_height (If' h arms k other) = max (arms_height arms) (stmts_height other) + 1
  stmt_height (Case' pick h arms k other) = max (height pick) (max (choices_height arms) (stmts_height other)) + 1
  stmt_height (For' v start limit step h body) = max (height start) (max (height limit) (max (height_if_any step) (stmts_height body))) + 1
  stmt_height (While' test h body) = max (height test) (stmts_height body) + 1
  stmt_height (Repeat' h body test) = max (stmts_height body) (height test) + 1
  stmt_height Exit = 0
  stmt_height Return = 0

  pub stmts_height : {m : _} → Row_of-TStmt m → ℕ
  stmts_height end_of-TStmt = 0
  stmts_height (more_of-TStmt x xs) = max (stmt_height x) (stmts_height xs)

  pub arms_height : {m : _} → Row_of-TArm m → ℕ
  arms_height end_of-TArm = 0
  arms_height (more_of-TArm test h body rest) = max (height test) (max (stmts_height body) (arms_height rest))

  pub choices_height : {m : _} → Row_of-TChoice m → ℕ
  choices_height end_of-TChoice = 0
  choices_height (more_of-TChoice labels h body rest) = max (stmts_height body) (choices_height rest)

abbrev pub list_height : List TStmt → ℕ
list_height [] = 0
list_height (x ∷ xs) = max (stmt_height x) (list_height xs)

abbrev pub body_height : TBody → ℕ
body_height (St xs) = list_height xs
