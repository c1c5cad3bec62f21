-- The height of each untyped tree, with expressions and lists where the definitions have rows.
use Rattle.std.proofs.Common.{◌≡◌, refl, sym, ap, ℕ, ◌+◌, List, [], ◌∷◌, ◌++◌, Option, arith}
use Rattle.std.specs.Prelude.{max}
use Rattle.std.proofs.Math.Nat.{zero-max}
use Rattle.plc_base.specs.declared.refusal.Place.{Place}
use Rattle.plc_tree.specs.declared.tree.UnOp.{UnOp}
use Rattle.plc_tree.specs.declared.tree.BinOp.{BinOp}
use Rattle.plc_tree.specs.declared.tree.Expr.{Expr}
use Rattle.plc_tree.specs.declared.tree.Expr.TheVariants as e
use Rattle.plc_tree.specs.declared.tree.Arg.TheBlock.{hidden-the_row-Part-0, hidden-the_row-Expr-1, hidden-the_row-Arg-2, hidden-the_row-Expr-3}
use Rattle.plc_tree.specs.declared.tree.Path.{Path}
use Rattle.plc_tree.specs.declared.tree.Part.{Part}
use Rattle.plc_tree.specs.declared.tree.Part.TheVariants as in_part
use Rattle.plc_tree.specs.declared.tree.Arg.{Arg}
use Rattle.plc_tree.specs.declared.tree.Arm.{Arm}
use Rattle.plc_tree.specs.declared.tree.Choice.{Choice}
use Rattle.plc_tree.specs.declared.tree.Stmt.{Stmt}
use Rattle.plc_tree.specs.declared.tree.Stmt.TheVariants as stmt
use Rattle.plc_tree.specs.declared.tree.Stmt.TheBlock.{hidden-the_row-Stmt-0, hidden-the_row-Arm-1, hidden-the_row-Choice-2}
use Rattle.plc_tree.specs.Heights.{height, exprs_height, parts_height, part_height, args_height, arg_height, height_if_any, path_height, stmt_height, stmts_height, arms_height, choices_height, list_height}

-- ---- lists

-- the height of the highest
abbrev pub highest : {A : Type 0} → (A → ℕ) → List A → ℕ
highest h [] = 0
highest h (x ∷ xs) = max (h x) (highest h xs)

pub highest-append : {A : Type 0} (h : A → ℕ) (xs ys : List A) → highest h (xs ++ ys) ≡ max (highest h xs) (highest h ys)
highest-append h [] ys = sym (zero-max (highest h ys))
highest-append h (x ∷ xs) ys = let rest = highest-append h xs ys in omega arith

pub list_height-append : (xs ys : List Stmt) → list_height (xs ++ ys) ≡ max (list_height xs) (list_height ys)
list_height-append [] ys = sym (zero-max (list_height ys))
list_height-append (x ∷ xs) ys = let rest = list_height-append xs ys in omega arith

-- ---- expressions

exprs_row : (xs : List Expr) → exprs_height (hidden-the_row-Expr-3 xs) ≡ highest height xs
unfolding hidden-the_row-Expr-3 denote.Hole.Carrier.hidden
exprs_row [] = refl
exprs_row (x ∷ xs) = ap (max (height x)) (exprs_row xs)

parts_row : (ps : List Part) → parts_height (hidden-the_row-Part-0 ps) ≡ highest part_height ps
unfolding hidden-the_row-Part-0 denote.Hole.Carrier.hidden
parts_row [] = refl
parts_row (p ∷ ps) = ap (max (part_height p)) (parts_row ps)

args_row : (xs : List Arg) → args_height (hidden-the_row-Arg-2 xs) ≡ highest arg_height xs
unfolding hidden-the_row-Arg-2 denote.Hole.Carrier.hidden
args_row [] = refl
args_row (a ∷ xs) = ap (max (arg_height a)) (args_row xs)

pub height-Var : (p : Path) → height (e.Var p) ≡ highest part_height p.parts
height-Var p = parts_row p.parts

pub height-Index : (xs : List Expr) (at : Place) → part_height (in_part.Index xs at) ≡ highest height xs + 1
height-Index xs at = ap (λ n. n + 1) (exprs_row xs)

pub height-Paren : (at : Place) (x : Expr) → height (e.Paren at x) ≡ height x + 1
unfolding hidden-the_row-Expr-1 denote.Hole.Carrier.hidden
height-Paren at x = refl

pub height-Unary : (op : UnOp) (at : Place) (x : Expr) → height (e.Unary op at x) ≡ height x + 1
unfolding hidden-the_row-Expr-1 denote.Hole.Carrier.hidden
height-Unary op at x = refl

pub height-Binary : (op : BinOp) (at : Place) (x y : Expr) → height (e.Binary op at x y) ≡ max (height x) (height y) + 1
unfolding hidden-the_row-Expr-1 denote.Hole.Carrier.hidden
height-Binary op at x y = refl

pub height-Call : (name : List ℕ) (at : Place) (xs : List Arg) → height (e.Call name at xs) ≡ highest arg_height xs + 1
height-Call name at xs = ap (λ n. n + 1) (args_row xs)

-- ---- statements

stmts_row : (xs : List Stmt) → stmts_height (hidden-the_row-Stmt-0 xs) ≡ list_height xs
unfolding hidden-the_row-Stmt-0 denote.Hole.Carrier.hidden
stmts_row [] = refl
stmts_row (x ∷ xs) = ap (max (stmt_height x)) (stmts_row xs)

abbrev pub arm_height : Arm → ℕ
arm_height a = max (height a.test) (list_height a.body)

arms_row : (xs : List Arm) → arms_height (hidden-the_row-Arm-1 xs) ≡ highest arm_height xs
unfolding hidden-the_row-Arm-1 hidden-the_row-Stmt-0 denote.Hole.Carrier.hidden
arms_row [] = refl
arms_row (a ∷ xs) = let body = stmts_row a.body in let rest = arms_row xs in omega arith

abbrev pub choice_height : Choice → ℕ
choice_height c = list_height c.body

choices_row : (xs : List Choice) → choices_height (hidden-the_row-Choice-2 xs) ≡ highest choice_height xs
unfolding hidden-the_row-Choice-2 hidden-the_row-Stmt-0 denote.Hole.Carrier.hidden
choices_row [] = refl
choices_row (c ∷ xs) = λ i. max (stmts_row c.body i) (choices_row xs i)

pub height-Set : (p : Path) (x : Expr) → stmt_height (stmt.Set p x) ≡ max (path_height p) (height x)
height-Set p x = refl

pub height-Invoke : (name : List ℕ) (at : Place) (xs : List Arg) → stmt_height (stmt.Call name at xs) ≡ highest arg_height xs + 1
height-Invoke name at xs = ap (λ n. n + 1) (args_row xs)

pub height-If : (arms : List Arm) (other : List Stmt) → stmt_height (stmt.If arms other) ≡ max (highest arm_height arms) (list_height other) + 1
height-If arms other = λ i. max (arms_row arms i) (stmts_row other i) + 1

pub height-Case : (pick : Expr) (choices : List Choice) (other : List Stmt)
    → stmt_height (stmt.Case pick choices other) ≡ max (height pick) (max (highest choice_height choices) (list_height other)) + 1
height-Case pick choices other = λ i. max (height pick) (max (choices_row choices i) (stmts_row other i)) + 1

pub height-For : (v : Path) (start limit : Expr) (step : Option Expr) (body : List Stmt)
    → stmt_height (stmt.For v start limit step body) ≡ max (path_height v) (max (height start) (max (height limit) (max (height_if_any step) (list_height body)))) + 1
height-For v start limit step body = λ i. max (path_height v) (max (height start) (max (height limit) (max (height_if_any step) (stmts_row body i)))) + 1

pub height-While : (test : Expr) (body : List Stmt) → stmt_height (stmt.While test body) ≡ max (height test) (list_height body) + 1
height-While test body = λ i. max (height test) (stmts_row body i) + 1

pub height-Repeat : (body : List Stmt) (test : Expr) → stmt_height (stmt.Repeat body test) ≡ max (list_height body) (height test) + 1
height-Repeat body test = λ i. max (stmts_row body i) (height test) + 1
