-- What expressions and statements need as equations, with expressions and lists where the definitions have rows.
use Rattle.std.proofs.Common.{◌≡◌, refl, sym, ap, ◌∙◌, ℕ, List, [], ◌∷◌, ◌++◌, append_assoc, append-nil, Option, Bool}
use Rattle.std.specs.List.{flat_map}
use Rattle.plc_base.specs.declared.refusal.Place.{Place}
use Rattle.plc_tree.specs.declared.tree.Id.{Id}
use Rattle.plc_tree.specs.declared.tree.BinOp.{BinOp}
use Rattle.plc_tree.specs.declared.tree.UnOp.{UnOp}
use Rattle.plc_tree.specs.declared.tree.Path.{Path}
use Rattle.plc_tree.specs.declared.tree.Part.{Part}
use Rattle.plc_tree.specs.declared.tree.Part as in_part
use Rattle.plc_tree.specs.declared.tree.Arg.{Arg}
use Rattle.plc_tree.specs.declared.tree.Arg as in_arg
use Rattle.plc_tree.specs.declared.tree.Expr.{Expr}
use Rattle.plc_tree.specs.declared.tree.Expr as e
use Rattle.plc_tree.specs.declared.tree.Arg.TheBlock.{hidden-the_row-Expr-1, hidden-the_row-Part-0, hidden-the_row-Arg-2, hidden-the_row-Expr-3}
use Rattle.plc_tree.specs.declared.tree.Arm.{Arm}
use Rattle.plc_tree.specs.declared.tree.Choice.{Choice}
use Rattle.plc_tree.specs.declared.tree.Stmt.{Stmt}
use Rattle.plc_tree.specs.declared.tree.Stmt as stmt
use Rattle.plc_tree.specs.declared.tree.Stmt.TheBlock.{hidden-the_row-Stmt-0, hidden-the_row-Arm-1, hidden-the_row-Choice-2}
use Rattle.plc_names.specs.Needs.{IsOwn, called, expr_needs, exprs_needs, parts_needs, part_needs, args_needs, arg_needs, path_needs, step_needs, label_needs, stmt_needs, stmts_needs, arms_needs, choices_needs}
use Rattle.plc_needs.specs.Parts.{for_needs, arm_needs, choice_needs}

module _ (own : IsOwn) where
  -- ---- expressions

  exprs_row : (xs : List Expr) → exprs_needs own (hidden-the_row-Expr-3 xs) ≡ flat_map (expr_needs own) xs
  unfolding hidden-the_row-Expr-3 denote.Hole.Carrier.hidden
  exprs_row [] = refl
  exprs_row (x ∷ xs) = ap (λ ns. expr_needs own x ++ ns) (exprs_row xs)

  parts_row : (parts : List Part) → parts_needs own (hidden-the_row-Part-0 parts) ≡ flat_map (part_needs own) parts
  unfolding hidden-the_row-Part-0 denote.Hole.Carrier.hidden
  parts_row [] = refl
  parts_row (p ∷ parts) = ap (λ ns. part_needs own p ++ ns) (parts_row parts)

  args_row : (args : List Arg) → args_needs own (hidden-the_row-Arg-2 args) ≡ flat_map (arg_needs own) args
  unfolding hidden-the_row-Arg-2 denote.Hole.Carrier.hidden
  args_row [] = refl
  args_row (a ∷ args) = ap (λ ns. arg_needs own a ++ ns) (args_row args)

  pub needs-Var : (p : Path) → expr_needs own (e.Var p) ≡ flat_map (part_needs own) p.parts
  needs-Var p = parts_row p.parts

  pub needs-Paren : (at : Place) (a : Expr) → expr_needs own (e.Paren at a) ≡ expr_needs own a
  unfolding hidden-the_row-Expr-1 denote.Hole.Carrier.hidden
  needs-Paren at a = append-nil (expr_needs own a)

  pub needs-Unary : (op : UnOp) (at : Place) (a : Expr) → expr_needs own (e.Unary op at a) ≡ expr_needs own a
  unfolding hidden-the_row-Expr-1 denote.Hole.Carrier.hidden
  needs-Unary op at a = append-nil (expr_needs own a)

  pub needs-Binary : (op : BinOp) (at : Place) (a b : Expr) → expr_needs own (e.Binary op at a b) ≡ expr_needs own a ++ expr_needs own b
  unfolding hidden-the_row-Expr-1 denote.Hole.Carrier.hidden
  needs-Binary op at a b = λ i. append-nil (expr_needs own a) i ++ append-nil (expr_needs own b) i

  pub needs-Call : (name : List ℕ) (at : Place) (args : List Arg) → expr_needs own (e.Call name at args) ≡ called own name at ++ flat_map (arg_needs own) args
  needs-Call name at args = ap (λ ns. called own name at ++ ns) (args_row args)

  pub needs-Index : (list : List Expr) (at : Place) → part_needs own (in_part.Index list at) ≡ flat_map (expr_needs own) list
  needs-Index list at = exprs_row list

  pub needs-Out : (negate : Bool) (name : List ℕ) (at : Place) (to : Path) → arg_needs own (in_arg.Out negate name at to) ≡ flat_map (part_needs own) to.parts
  needs-Out negate name at to = parts_row to.parts

  -- ---- statements

  stmts_row : (xs : List Stmt) → stmts_needs own (hidden-the_row-Stmt-0 xs) ≡ flat_map (stmt_needs own) xs
  unfolding hidden-the_row-Stmt-0 denote.Hole.Carrier.hidden
  stmts_row [] = refl
  stmts_row (x ∷ xs) = ap (λ ns. stmt_needs own x ++ ns) (stmts_row xs)

  arms_row : (arms : List Arm) → arms_needs own (hidden-the_row-Arm-1 arms) ≡ flat_map (arm_needs own) arms
  unfolding hidden-the_row-Arm-1 hidden-the_row-Stmt-0 denote.Hole.Carrier.hidden
  arms_row [] = refl
  arms_row (a ∷ arms) =
      (λ i. expr_needs own a.test ++ (stmts_row a.body i ++ arms_row arms i))
      ∙ sym (append_assoc (expr_needs own a.test) (flat_map (stmt_needs own) a.body) (flat_map (arm_needs own) arms))

  choices_row : (choices : List Choice) → choices_needs own (hidden-the_row-Choice-2 choices) ≡ flat_map (choice_needs own) choices
  unfolding hidden-the_row-Choice-2 hidden-the_row-Stmt-0 denote.Hole.Carrier.hidden
  choices_row [] = refl
  choices_row (c ∷ choices) =
      (λ i. flat_map label_needs c.labels ++ (stmts_row c.body i ++ choices_row choices i))
      ∙ sym (append_assoc (flat_map label_needs c.labels) (flat_map (stmt_needs own) c.body) (flat_map (choice_needs own) choices))

  pub needs-If : (arms : List Arm) (other : List Stmt) → stmt_needs own (stmt.If arms other) ≡ flat_map (arm_needs own) arms ++ flat_map (stmt_needs own) other
  needs-If arms other = λ i. arms_row arms i ++ stmts_row other i

  pub needs-Case : (pick : Expr) (arms : List Choice) (other : List Stmt)
      → stmt_needs own (stmt.Case pick arms other) ≡ expr_needs own pick ++ (flat_map (choice_needs own) arms ++ flat_map (stmt_needs own) other)
  needs-Case pick arms other = λ i. expr_needs own pick ++ (choices_row arms i ++ stmts_row other i)

  pub needs-For : (var : Path) (start limit : Expr) (step : Option Expr) (body : List Stmt)
      → stmt_needs own (stmt.For var start limit step body) ≡ for_needs own var start limit step ++ flat_map (stmt_needs own) body
  needs-For var start limit step body =
      (λ i. path_needs own var ++ (expr_needs own start ++ (expr_needs own limit ++ (step_needs own step ++ stmts_row body i))))
      ∙ sym (regrouped (path_needs own var) (expr_needs own start) (expr_needs own limit) (step_needs own step) (flat_map (stmt_needs own) body))
    where
      regrouped : (v a b s x : List Id) → (v ++ (a ++ (b ++ s))) ++ x ≡ v ++ (a ++ (b ++ (s ++ x)))
      regrouped v a b s x = append_assoc v (a ++ (b ++ s)) x ∙ ap (λ ns. v ++ ns) (append_assoc a (b ++ s) x ∙ ap (λ ns. a ++ ns) (append_assoc b s x))

  pub needs-While : (test : Expr) (body : List Stmt) → stmt_needs own (stmt.While test body) ≡ expr_needs own test ++ flat_map (stmt_needs own) body
  needs-While test body = ap (λ ns. expr_needs own test ++ ns) (stmts_row body)

  pub needs-Repeat : (body : List Stmt) (test : Expr) → stmt_needs own (stmt.Repeat body test) ≡ flat_map (stmt_needs own) body ++ expr_needs own test
  needs-Repeat body test = ap (λ ns. ns ++ expr_needs own test) (stmts_row body)
