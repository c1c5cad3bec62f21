-- Typed statements are no higher than those that they are of.
use Rattle.std.proofs.Common.{◌≡◌, ℕ, ◌+◌, ◌≤◌, List, [], ◌∷◌, map, Option, Some, None, arith, le_trans}
use Rattle.std.specs.Prelude.{max}
use Rattle.std.proofs.Math.Nat.{max-le, le-max_left, le-max_right}
use Rattle.plc_base.specs.declared.elem.Elem.{Elem}
use Rattle.plc_base.specs.declared.elem.Elem.TheVariants.{Int, Bool as Boolean}
use Rattle.plc_tree.specs.declared.tree.Expr.{Expr, Number, Truth, Span, Value, Var', Paren', Unary', Binary', Call', more_of-Expr}
use Rattle.plc_tree.specs.declared.tree.Stmt.{Stmt, Row_of-Stmt, end_of-Stmt, more_of-Stmt, Row_of-Arm, end_of-Arm, more_of-Arm, Row_of-Choice, end_of-Choice, more_of-Choice}
use Rattle.plc_tree.specs.declared.tree.Stmt as s
use Rattle.plc_tree.specs.declared.typed.TypeId.TheVariants as of
use Rattle.plc_tree.specs.Heights as Heights
use Rattle.plc_tree.specs.TypedHeights.{height, height_if_any, stmt_height, list_height}
use Rattle.plc_tree.proofs.TreeViews.{height-Paren, height-Unary, height-Binary}
use Rattle.plc_tree.proofs.StatementViews.{arm_list_height, choice_list_height, height-If, height-Case, height-For, height-While, height-Repeat}
use Rattle.plc_typing.specs.Scope.{Types}
use Rattle.plc_typing.specs.Plain.{side_of, type_of_one}
use Rattle.plc_typing.specs.Typing.{typed_path, typed_expr, typed_if_any, typed_stmt, typed_stmts, typed_arms, typed_choices}

-- the higher of two that are no higher than two others
both : {a b c d : ℕ} → a ≤ c → b ≤ d → max a b ≤ max c d
both {a} {b} {c} {d} h k = max-le (le_trans h (le-max_left c d)) (le_trans k (le-max_right c d))

-- with one above it, where the first height is given by an equation
above : {h a b : ℕ} → h ≡ a + 1 → a ≤ b → h ≤ b + 1
above e le = omega (arith, e, le)

module _ (N : List (List ℕ)) where
  pub expr_low : (want : Elem) (x : Expr) → height (typed_expr N want x) ≤ Heights.height x
  unfolding typed_expr
  expr_low want (Number z prefix at) = omega arith
  expr_low want (Truth b at) = omega arith
  expr_low want (Span ns at) = omega arith
  expr_low want (Value owner name at name_at) = omega arith
  expr_low want (Var' first at h parts) = omega arith
  expr_low want (Paren' at h (more_of-Expr x rest)) = above (height-Paren (of.Elem want) (typed_expr N want x)) (expr_low want x)
  expr_low want (Unary' op at h (more_of-Expr x rest)) = above (height-Unary op (of.Elem want) (typed_expr N (type_of_one op) x)) (expr_low (type_of_one op) x)
  expr_low want (Binary' op at h (more_of-Expr x none) k (more_of-Expr y rest)) =
      above (height-Binary op (of.Elem want) (typed_expr N (side_of op) x) (typed_expr N (side_of op) y)) (both (expr_low (side_of op) x) (expr_low (side_of op) y))
  expr_low want (Call' name at h args) = omega arith

  if_any_low : (want : Elem) (x : Option Expr) → height_if_any (typed_if_any N want x) ≤ Heights.height_if_any x
  if_any_low want None = omega arith
  if_any_low want (Some x) = expr_low want x

module _ (N : List (List ℕ)) (types : Types) where
  mutual
    unfolding typed_stmt

    pub stmt_low : (x : Stmt) → stmt_height (typed_stmt N types x) ≤ Heights.stmt_height x
    stmt_low s.Empty = omega arith
    stmt_low (s.Set to from) = le_trans (expr_low N _ from) (le-max_right (Heights.path_height to) (Heights.height from))
    stmt_low (s.Call name at args) = omega arith
    stmt_low (s.If' h arms k other) = above (height-If (typed_arms N types arms) (typed_stmts N types other)) (both (arms_low arms) (row_low other))
    stmt_low (s.Case' pick h arms k other) =
        above (height-Case (typed_expr N Int pick) (typed_choices N types arms) (typed_stmts N types other)) (both (expr_low N Int pick) (both (choices_low arms) (row_low other)))
    stmt_low (s.For' var start limit step h body) =
        let low = both (expr_low N Int start) (both (expr_low N Int limit) (both (if_any_low N Int step) (row_low body))) in
        above (height-For (typed_path N var) (typed_expr N Int start) (typed_expr N Int limit) (typed_if_any N Int step) (typed_stmts N types body)) (le_trans low (le-max_right (Heights.path_height var) _))
    stmt_low (s.While' test h body) = above (height-While (typed_expr N Boolean test) (typed_stmts N types body)) (both (expr_low N Boolean test) (row_low body))
    stmt_low (s.Repeat' h body test) = above (height-Repeat (typed_stmts N types body) (typed_expr N Boolean test)) (both (row_low body) (expr_low N Boolean test))
    stmt_low (s.Exit at) = omega arith
    stmt_low (s.Return at) = omega arith

    row_low : {m : _} (xs : Row_of-Stmt m) → list_height (typed_stmts N types xs) ≤ Heights.stmts_height xs
    row_low end_of-Stmt = omega arith
    row_low (more_of-Stmt x xs) = both (stmt_low x) (row_low xs)

    arms_low : {m : _} (arms : Row_of-Arm m) → arm_list_height (typed_arms N types arms) ≤ Heights.arms_height arms
    arms_low end_of-Arm = omega arith
    arms_low (more_of-Arm test h body rest) = both (expr_low N Boolean test) (both (row_low body) (arms_low rest))

    choices_low : {m : _} (arms : Row_of-Choice m) → choice_list_height (typed_choices N types arms) ≤ Heights.choices_height arms
    choices_low end_of-Choice = omega arith
    choices_low (more_of-Choice labels h body rest) = both (row_low body) (choices_low rest)

  pub typed_low : (xs : List Stmt) → list_height (map (typed_stmt N types) xs) ≤ Heights.list_height xs
  typed_low [] = omega arith
  typed_low (x ∷ xs) = both (stmt_low x) (typed_low xs)
