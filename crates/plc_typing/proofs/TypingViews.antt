-- The typed tree of each expression and statement as equations, with expressions and lists where the definitions have rows.
use Rattle.std.proofs.Common.{◌≡◌, refl, ap, ℕ, List, [], ◌∷◌, map, Option}
use Rattle.std.specs.Prelude.{ℤ, Bool}
use Rattle.plc_base.specs.declared.elem.Elem.{Elem}
use Rattle.plc_base.specs.declared.elem.Elem.TheVariants.{Int, Bool as Boolean}
use Rattle.plc_base.specs.declared.refusal.Place.{Place}
use Rattle.plc_tree.specs.declared.tree.BinOp.{BinOp}
use Rattle.plc_tree.specs.declared.tree.UnOp.{UnOp}
use Rattle.plc_tree.specs.declared.tree.Path.{Path}
use Rattle.plc_tree.specs.declared.tree.Arg.{Arg}
use Rattle.plc_tree.specs.declared.tree.Expr.{Expr, Number, Truth, Span, Value, Var, Paren, Unary, Binary, Call}
use Rattle.plc_tree.specs.declared.tree.Arg.TheBlock.{hidden-the_row-Expr-1}
use Rattle.plc_tree.specs.declared.tree.Arm.{Arm}
use Rattle.plc_tree.specs.declared.tree.Choice.{Choice}
use Rattle.plc_tree.specs.declared.tree.Stmt.{Stmt}
use Rattle.plc_tree.specs.declared.tree.Stmt as stmt
use Rattle.plc_tree.specs.declared.tree.Stmt.TheBlock.{hidden-the_row-Stmt-0, hidden-the_row-Arm-1, hidden-the_row-Choice-2}
use Rattle.plc_tree.specs.declared.typed.TypeId.TheVariants as of
use Rattle.plc_tree.specs.declared.typed.TExpr.TheVariants as node
use Rattle.plc_tree.specs.declared.typed.TStmt.TheVariants as does
use Rattle.plc_typing.specs.Scope.{Types}
use Rattle.plc_typing.specs.Plain.{side_of, type_of_one}
use Rattle.plc_typing.specs.Typing.{typed_path, nothing, typed_expr, typed_if_any, typed_stmt, typed_stmts, typed_arms, typed_choices}
use Rattle.plc_typing.specs.TypedParts.{typed_set, typed_arm, typed_choice}

-- ---- expressions

module _ (names : List (List ℕ)) (want : Elem) where
  pub typed_expr-Number : (z : ℤ) (prefix : Option Elem) (at : Place) → typed_expr names want (Number z prefix at) ≡ node.Number z (of.Elem want)
  unfolding typed_expr
  typed_expr-Number z prefix at = refl

  pub typed_expr-Truth : (b : Bool) (at : Place) → typed_expr names want (Truth b at) ≡ node.Truth b (of.Elem want)
  unfolding typed_expr
  typed_expr-Truth b at = refl

  pub typed_expr-Span : (ns : ℤ) (at : Place) → typed_expr names want (Span ns at) ≡ nothing want
  unfolding typed_expr
  typed_expr-Span ns at = refl

  pub typed_expr-Value : (owner name : List ℕ) (at name_at : Place) → typed_expr names want (Value owner name at name_at) ≡ nothing want
  unfolding typed_expr
  typed_expr-Value owner name at name_at = refl

  pub typed_expr-Var : (p : Path) → typed_expr names want (Var p) ≡ node.Var (typed_path names p) (of.Elem want)
  unfolding typed_expr
  typed_expr-Var p = refl

  pub typed_expr-Paren : (at : Place) (a : Expr) → typed_expr names want (Paren at a) ≡ node.Paren (of.Elem want) (typed_expr names want a)
  unfolding typed_expr hidden-the_row-Expr-1 denote.Hole.Carrier.hidden
  typed_expr-Paren at a = refl

  pub typed_expr-Unary : (op : UnOp) (at : Place) (a : Expr) → typed_expr names want (Unary op at a) ≡ node.Unary op (of.Elem want) (typed_expr names (type_of_one op) a)
  unfolding typed_expr hidden-the_row-Expr-1 denote.Hole.Carrier.hidden
  typed_expr-Unary op at a = refl

  pub typed_expr-Binary : (op : BinOp) (at : Place) (a b : Expr)
      → typed_expr names want (Binary op at a b) ≡ node.Binary op (of.Elem want) (typed_expr names (side_of op) a) (typed_expr names (side_of op) b)
  unfolding typed_expr hidden-the_row-Expr-1 denote.Hole.Carrier.hidden
  typed_expr-Binary op at a b = refl

  pub typed_expr-Call : (name : List ℕ) (at : Place) (args : List Arg) → typed_expr names want (Call name at args) ≡ nothing want
  unfolding typed_expr
  typed_expr-Call name at args = refl

pub ruleset expressions = (typed_expr-Number, typed_expr-Truth, typed_expr-Span, typed_expr-Value, typed_expr-Var, typed_expr-Paren, typed_expr-Unary, typed_expr-Binary, typed_expr-Call)

-- ---- statements

module _ (names : List (List ℕ)) (types : Types) where
  stmts_row : (xs : List Stmt) → typed_stmts names types (hidden-the_row-Stmt-0 xs) ≡ map (typed_stmt names types) xs
  unfolding typed_stmt hidden-the_row-Stmt-0 denote.Hole.Carrier.hidden
  stmts_row [] = refl
  stmts_row (x ∷ xs) = ap (λ ys. typed_stmt names types x ∷ ys) (stmts_row xs)

  arms_row : (arms : List Arm) → typed_arms names types (hidden-the_row-Arm-1 arms) ≡ map (typed_arm names types) arms
  unfolding typed_stmt hidden-the_row-Arm-1 hidden-the_row-Stmt-0 denote.Hole.Carrier.hidden
  arms_row [] = refl
  arms_row (a ∷ arms) = λ i. record { test = typed_expr names Boolean a.test; body = stmts_row a.body i } ∷ arms_row arms i

  choices_row : (choices : List Choice) → typed_choices names types (hidden-the_row-Choice-2 choices) ≡ map (typed_choice names types) choices
  unfolding typed_stmt hidden-the_row-Choice-2 hidden-the_row-Stmt-0 denote.Hole.Carrier.hidden
  choices_row [] = refl
  choices_row (c ∷ choices) = λ i. record { labels = (typed_choice names types c).labels; body = stmts_row c.body i } ∷ choices_row choices i

  pub typed_stmt-Empty : typed_stmt names types stmt.Empty ≡ does.Empty
  unfolding typed_stmt
  typed_stmt-Empty = refl

  pub typed_stmt-Set : (to : Path) (from : Expr) → typed_stmt names types (stmt.Set to from) ≡ typed_set names types to from
  unfolding typed_stmt
  typed_stmt-Set to from = refl

  pub typed_stmt-Call : (name : List ℕ) (at : Place) (args : List Arg) → typed_stmt names types (stmt.Call name at args) ≡ does.Empty
  unfolding typed_stmt
  typed_stmt-Call name at args = refl

  pub typed_stmt-If : (arms : List Arm) (other : List Stmt) → typed_stmt names types (stmt.If arms other) ≡ does.If (map (typed_arm names types) arms) (map (typed_stmt names types) other)
  unfolding typed_stmt
  typed_stmt-If arms other = λ i. does.If (arms_row arms i) (stmts_row other i)

  pub typed_stmt-Case : (pick : Expr) (arms : List Choice) (other : List Stmt)
      → typed_stmt names types (stmt.Case pick arms other) ≡ does.Case (typed_expr names Int pick) (map (typed_choice names types) arms) (map (typed_stmt names types) other)
  unfolding typed_stmt
  typed_stmt-Case pick arms other = λ i. does.Case (typed_expr names Int pick) (choices_row arms i) (stmts_row other i)

  pub typed_stmt-For : (var : Path) (start limit : Expr) (step : Option Expr) (body : List Stmt)
      → typed_stmt names types (stmt.For var start limit step body)
      ≡ does.For (typed_path names var) (typed_expr names Int start) (typed_expr names Int limit) (typed_if_any names Int step) (map (typed_stmt names types) body)
  unfolding typed_stmt
  typed_stmt-For var start limit step body = λ i. does.For (typed_path names var) (typed_expr names Int start) (typed_expr names Int limit) (typed_if_any names Int step) (stmts_row body i)

  pub typed_stmt-While : (test : Expr) (body : List Stmt) → typed_stmt names types (stmt.While test body) ≡ does.While (typed_expr names Boolean test) (map (typed_stmt names types) body)
  unfolding typed_stmt
  typed_stmt-While test body = λ i. does.While (typed_expr names Boolean test) (stmts_row body i)

  pub typed_stmt-Repeat : (body : List Stmt) (test : Expr) → typed_stmt names types (stmt.Repeat body test) ≡ does.Repeat (map (typed_stmt names types) body) (typed_expr names Boolean test)
  unfolding typed_stmt
  typed_stmt-Repeat body test = λ i. does.Repeat (stmts_row body i) (typed_expr names Boolean test)

  pub typed_stmt-Exit : (at : Place) → typed_stmt names types (stmt.Exit at) ≡ does.Exit
  unfolding typed_stmt
  typed_stmt-Exit at = refl

  pub typed_stmt-Return : (at : Place) → typed_stmt names types (stmt.Return at) ≡ does.Return
  unfolding typed_stmt
  typed_stmt-Return at = refl

pub ruleset statements = (typed_stmt-Empty, typed_stmt-Set, typed_stmt-Call, typed_stmt-If, typed_stmt-Case, typed_stmt-For, typed_stmt-While, typed_stmt-Repeat, typed_stmt-Exit, typed_stmt-Return)
