-- The C of each tree as equations, with expressions and lists where the definitions have rows.
use Rattle.std.proofs.Common.{◌≡◌, refl, ap, List, [], ◌∷◌, ◌++◌, map}
use Rattle.std.specs.Prelude.{ℤ, Bool, Option, None}
use Rattle.std.specs.List.{flat_map}
use Rattle.plc_base.specs.declared.elem.Elem.{Elem}
use Rattle.plc_tree.specs.declared.tree.BinOp.{BinOp}
use Rattle.plc_tree.specs.declared.tree.UnOp.{UnOp}
use Rattle.plc_tree.specs.declared.typed.TypeId.{TypeId}
use Rattle.plc_tree.specs.declared.typed.TPath.{TPath}
use Rattle.plc_tree.specs.declared.typed.TVar.{TVar}
use Rattle.plc_tree.specs.declared.typed.TExpr.{TExpr, Number, Truth, Var, Paren, Unary, Binary}
use Rattle.plc_tree.specs.declared.typed.TExpr.TheBlock.{hidden-the_row-TExpr-0}
use Rattle.plc_tree.specs.declared.typed.TArm.{TArm}
use Rattle.plc_tree.specs.declared.typed.TChoice.{TChoice}
use Rattle.plc_tree.specs.declared.typed.TStmt.{TStmt, Empty, Set, If, Case, For, While, Repeat, Exit, Return}
use Rattle.plc_tree.specs.declared.typed.TStmt.TheBlock.{hidden-the_row-TStmt-0, hidden-the_row-TArm-1, hidden-the_row-TChoice-2}
use Rattle.plc_tree.specs.Execution.{truth, elem_of_node}
use Rattle.plc_tree.specs.Rows.{elem_of}
use Rattle.c_tree.specs.declared.tree.CExpr.TheVariants.{GetVar}
use Rattle.c_tree.specs.declared.tree.CStmt.TheVariants as stmt
use Rattle.emit_pou.specs.CNames.{case_name}
use Rattle.emit_pou.specs.Expressions.{leaf, literal, operation, operation_of_one, c_expr}
use Rattle.emit_pou.specs.Statements.{small, set_local, pick, where_picked, arm, choice, until, for_loop, list_of, arm_of, choice_of, c_stmt, c_stmts, c_arms, c_choices}

-- ---- expressions

pub c_expr-Number : (vs : List TVar) (z : ℤ) (ty : TypeId) → c_expr vs (Number z ty) ≡ literal (elem_of ty) z
unfolding c_expr
c_expr-Number vs z ty = refl

pub c_expr-Truth : (vs : List TVar) (b : Bool) (ty : TypeId) → c_expr vs (Truth b ty) ≡ literal (elem_of ty) (truth b)
unfolding c_expr
c_expr-Truth vs b ty = refl

pub c_expr-Var : (vs : List TVar) (p : TPath) (ty : TypeId) → c_expr vs (Var p ty) ≡ GetVar (leaf vs p.first)
unfolding c_expr
c_expr-Var vs p ty = refl

pub c_expr-Paren : (vs : List TVar) (ty : TypeId) (a : TExpr) → c_expr vs (Paren ty a) ≡ c_expr vs a
unfolding c_expr hidden-the_row-TExpr-0 denote.Hole.Carrier.hidden
c_expr-Paren vs ty a = refl

pub c_expr-Unary : (vs : List TVar) (o : UnOp) (ty : TypeId) (a : TExpr) → c_expr vs (Unary o ty a) ≡ operation_of_one o (elem_of ty) (c_expr vs a)
unfolding c_expr hidden-the_row-TExpr-0 denote.Hole.Carrier.hidden
c_expr-Unary vs o ty a = refl

pub c_expr-Binary : (vs : List TVar) (o : BinOp) (ty : TypeId) (a b : TExpr) → c_expr vs (Binary o ty a b) ≡ operation o (elem_of ty) (c_expr vs a) (c_expr vs b)
unfolding c_expr hidden-the_row-TExpr-0 denote.Hole.Carrier.hidden
c_expr-Binary vs o ty a b = refl

pub ruleset expressions = (c_expr-Number, c_expr-Truth, c_expr-Var, c_expr-Paren, c_expr-Unary, c_expr-Binary)

-- ---- lists in the place of rows

list_row : (vs : List TVar) (xs : List TStmt) → c_stmts vs (hidden-the_row-TStmt-0 xs) ≡ list_of vs xs
unfolding c_stmt hidden-the_row-TStmt-0 denote.Hole.Carrier.hidden
list_row vs [] = refl
list_row vs (x ∷ xs) = ap (λ cs. c_stmt vs x ++ cs) (list_row vs xs)

arms_row : (vs : List TVar) (arms : List TArm) → c_arms vs (hidden-the_row-TArm-1 arms) ≡ map (arm_of vs) arms
unfolding c_stmt hidden-the_row-TArm-1 hidden-the_row-TStmt-0 denote.Hole.Carrier.hidden
arms_row vs [] = refl
arms_row vs (a ∷ arms) = λ i. arm (c_expr vs a.test) (list_row vs a.body i) ∷ arms_row vs arms i

choices_row : (vs : List TVar) (t : Elem) (choices : List TChoice) → c_choices vs t (hidden-the_row-TChoice-2 choices) ≡ flat_map (choice_of vs t) choices
unfolding c_stmt hidden-the_row-TChoice-2 hidden-the_row-TStmt-0 denote.Hole.Carrier.hidden
choices_row vs t [] = refl
choices_row vs t (c ∷ choices) = λ i. choice t c.labels (list_row vs c.body i) ++ choices_row vs t choices i

-- ---- statements

pub c_stmt-Empty : (vs : List TVar) → c_stmt vs Empty ≡ []
unfolding c_stmt
c_stmt-Empty vs = refl

pub c_stmt-Set : (vs : List TVar) (to : TPath) (from : TExpr) → c_stmt vs (Set to from) ≡ stmt.SetVar (leaf vs to.first) (c_expr vs from) ∷ []
unfolding c_stmt
c_stmt-Set vs to from = refl

pub c_stmt-If : (vs : List TVar) (arms : List TArm) (other : List TStmt) → c_stmt vs (If arms other) ≡ pick 0 ∷ (map (arm_of vs) arms ++ (where_picked 0 (list_of vs other) ∷ []))
unfolding c_stmt
c_stmt-If vs arms other = λ i. pick 0 ∷ (arms_row vs arms i ++ (where_picked 0 (list_row vs other i) ∷ []))

pub c_stmt-Case : (vs : List TVar) (selector : TExpr) (choices : List TChoice) (other : List TStmt)
    → c_stmt vs (Case selector choices other)
    ≡ set_local case_name (c_expr vs selector) ∷ pick 0 ∷ (flat_map (choice_of vs (elem_of_node selector)) choices ++ (where_picked 0 (list_of vs other) ∷ []))
unfolding c_stmt
c_stmt-Case vs selector choices other =
    λ i. set_local case_name (c_expr vs selector) ∷ pick 0 ∷ (choices_row vs (elem_of_node selector) choices i ++ (where_picked 0 (list_row vs other i) ∷ []))

pub c_stmt-For : (vs : List TVar) (v : TPath) (start limit : TExpr) (step : Option TExpr) (body : List TStmt)
    → c_stmt vs (For v start limit step body) ≡ for_loop vs v start limit step (list_of vs body)
unfolding c_stmt
c_stmt-For vs v start limit step body = ap (for_loop vs v start limit step) (list_row vs body)

pub c_stmt-While : (vs : List TVar) (test : TExpr) (body : List TStmt) → c_stmt vs (While test body) ≡ stmt.While (c_expr vs test) (list_of vs body) ∷ []
unfolding c_stmt
c_stmt-While vs test body = λ i. stmt.While (c_expr vs test) (list_row vs body i) ∷ []

pub c_stmt-Repeat : (vs : List TVar) (body : List TStmt) (test : TExpr) → c_stmt vs (Repeat body test) ≡ stmt.While (small 1) (list_of vs body ++ (until (c_expr vs test) ∷ [])) ∷ []
unfolding c_stmt
c_stmt-Repeat vs body test = λ i. stmt.While (small 1) (list_row vs body i ++ (until (c_expr vs test) ∷ [])) ∷ []

pub c_stmt-Exit : (vs : List TVar) → c_stmt vs Exit ≡ stmt.Break ∷ []
unfolding c_stmt
c_stmt-Exit vs = refl

pub c_stmt-Return : (vs : List TVar) → c_stmt vs Return ≡ stmt.Return None ∷ []
unfolding c_stmt
c_stmt-Return vs = refl

pub ruleset statements = (c_stmt-Empty, c_stmt-Set, c_stmt-If, c_stmt-Case, c_stmt-For, c_stmt-While, c_stmt-Repeat, c_stmt-Exit, c_stmt-Return)
