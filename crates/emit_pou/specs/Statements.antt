-- The C of statements. Four locals of the body's function serve them: whether an arm of the innermost IF or CASE was
-- picked, the number that a CASE looks for, and the step and the limit of the innermost FOR, each read before a
-- statement in an arm or a loop can change it.
use Rattle.std.specs.Prelude.{ℕ, List, [], ◌∷◌, ◌++◌, map, pos, Option, Some, None}
use Rattle.std.specs.List.{flat_map}
use Rattle.plc_base.specs.declared.elem.Elem.{Elem}
use Rattle.plc_base.specs.declared.elem.Elem.TheVariants.{Usint, Ulint}
use Rattle.plc_tree.specs.declared.typed.TVar.{TVar}
use Rattle.plc_tree.specs.declared.typed.TPath.{TPath}
use Rattle.plc_tree.specs.declared.typed.TExpr.{TExpr}
use Rattle.plc_tree.specs.declared.typed.TLabel.{TLabel}
use Rattle.plc_tree.specs.declared.typed.TLabel.TheVariants.{Range}
use Rattle.plc_tree.specs.declared.typed.TStmt.{TStmt, Empty, Set, If', Case', For', While', Repeat', Exit, Return, Row_of-TStmt, end_of-TStmt, more_of-TStmt, Row_of-TArm, end_of-TArm, more_of-TArm, Row_of-TChoice, end_of-TChoice, more_of-TChoice}
use Rattle.plc_tree.specs.declared.typed.TArm.{TArm}
use Rattle.plc_tree.specs.declared.typed.TChoice.{TChoice}
use Rattle.plc_tree.specs.declared.typed.TBody.{TBody}
use Rattle.plc_tree.specs.declared.typed.TBody.TheVariants.{St}
use Rattle.plc_tree.specs.Execution.{elem_of_node}
use Rattle.c_tree.specs.declared.tree.CLocal.{CLocal}
use Rattle.c_tree.specs.declared.tree.CPath.{CPath}
use Rattle.c_tree.specs.declared.tree.CExpr.{CExpr}
use Rattle.c_tree.specs.declared.tree.CExpr.TheVariants as expr
use Rattle.c_tree.specs.declared.tree.CBin.{CBin}
use Rattle.c_tree.specs.declared.tree.CBin.TheVariants as bin
use Rattle.c_tree.specs.declared.tree.CNum.TheVariants.{Int}
use Rattle.c_tree.specs.declared.tree.CStmt.{CStmt}
use Rattle.c_tree.specs.declared.tree.CStmt.TheVariants as stmt
use Rattle.emit_pou.specs.CNames.{pick_name, case_name, step_name, limit_name}
use Rattle.emit_pou.specs.Expressions.{plain_path, leaf, literal, in_64_bits, c_expr}

-- ---- locals

-- a plain number of the C
abbrev pub small : ℕ → CExpr
small n = expr.Number n Int

abbrev pub local_at_0 : Elem → List ℕ → CLocal
local_at_0 t name = record { elem = t; name = name; init = small 0 }

abbrev pub body_locals : List CLocal
body_locals = local_at_0 Usint pick_name ∷ local_at_0 Ulint case_name ∷ local_at_0 Ulint step_name ∷ local_at_0 Ulint limit_name ∷ []

abbrev pub set_local : List ℕ → CExpr → CStmt
set_local name e = stmt.Set (plain_path name) e

-- what a local of 64 bits holds, as a number of a type
abbrev pub held : Elem → List ℕ → CExpr
held t name = expr.Cast t (expr.Path (plain_path name))

-- ---- arms: 0 is picked before one is found, 2 where the labels of a CASE are found, 1 behind the arm that ran

abbrev pub where_picked : ℕ → List CStmt → CStmt
where_picked n body = stmt.If (expr.Bin bin.Eq (expr.Path (plain_path pick_name)) (small n)) body None

abbrev pub pick : ℕ → CStmt
pick n = set_local pick_name (small n)

-- the statements of an arm, which leaves the others out
abbrev pub arm_body : List CStmt → List CStmt
arm_body body = body ++ (pick 1 ∷ [])

-- an arm of an IF
abbrev pub arm : CExpr → List CStmt → CStmt
arm test body = where_picked 0 (stmt.If test (arm_body body) None ∷ [])

-- whether a number is from the first to the last of a label
abbrev pub label_test : Elem → TLabel → CExpr
label_test t (Range low high) = expr.Bin bin.And (expr.Bin bin.Le (literal t low) (held t case_name)) (expr.Bin bin.Le (held t case_name) (literal t high))

abbrev pub label : Elem → TLabel → CStmt
label t l = where_picked 0 (stmt.If (label_test t l) (pick 2 ∷ []) None ∷ [])

-- an arm of a CASE
abbrev pub choice : Elem → List TLabel → List CStmt → List CStmt
choice t labels body = map (label t) labels ++ (where_picked 2 (arm_body body) ∷ [])

-- ---- the parts of a FOR

abbrev pub c_step : List TVar → Elem → Option TExpr → CExpr
c_step vs t None = literal t (pos 1)
c_step vs t (Some e) = c_expr vs e

-- the step and the limit, before each test
abbrev pub head : List TVar → Elem → Option TExpr → TExpr → List CStmt
head vs t step limit = set_local step_name (c_step vs t step) ∷ set_local limit_name (c_expr vs limit) ∷ []

-- one side of the test: the step compared to 0, and the variable to the limit
abbrev pub half : Elem → CPath → CBin → CBin → CExpr
half t v way to = expr.Bin bin.And (expr.Bin way (held t step_name) (literal t (pos 0))) (expr.Bin to (expr.GetVar v) (held t limit_name))

-- upwards the limit is the last number, downwards too
abbrev pub for_test : Elem → CPath → CExpr
for_test t v = expr.Bin bin.Or (half t v bin.Ge bin.Le) (half t v bin.Lt bin.Ge)

-- behind a turn
abbrev pub count : List TVar → Elem → CPath → Option TExpr → TExpr → List CStmt
count vs t v step limit = stmt.SetVar v (in_64_bits t (expr.Bin bin.Add) (expr.GetVar v) (c_step vs t step)) ∷ head vs t step limit

-- the whole around the C of its statements
abbrev pub for_loop : List TVar → TPath → TExpr → TExpr → Option TExpr → List CStmt → List CStmt
for_loop vs v start limit step body =
    stmt.SetVar (leaf vs v.first) (c_expr vs start)
    ∷ (head vs (elem_of_node start) step limit
    ++ (stmt.While (for_test (elem_of_node start) (leaf vs v.first)) (body ++ count vs (elem_of_node start) (leaf vs v.first) step limit) ∷ []))

-- ---- statements

-- behind the body of a REPEAT
abbrev pub until : CExpr → CStmt
until test = stmt.If test (stmt.Break ∷ []) None

unfoldable mutual
  pub c_stmt : List TVar → TStmt → List CStmt
  c_stmt vs Empty = []
  c_stmt vs (Set to from) = stmt.SetVar (leaf vs to.first) (c_expr vs from) ∷ []
  c_stmt vs (If' h arms k other) = pick 0 ∷ (c_arms vs arms ++ (where_picked 0 (c_stmts vs other) ∷ []))
  c_stmt vs (Case' selector h arms k other) =
      set_local case_name (c_expr vs selector) ∷ pick 0 ∷ (c_choices vs (elem_of_node selector) arms ++ (where_picked 0 (c_stmts vs other) ∷ []))
  c_stmt vs (For' v start limit step h body) = for_loop vs v start limit step (c_stmts vs body)
  c_stmt vs (While' test h body) = stmt.While (c_expr vs test) (c_stmts vs body) ∷ []
  c_stmt vs (Repeat' h body test) = stmt.While (small 1) (c_stmts vs body ++ (until (c_expr vs test) ∷ [])) ∷ []
  c_stmt vs Exit = stmt.Break ∷ []
  c_stmt vs Return = stmt.Return None ∷ []

  -- of statements in a row
  pub c_stmts : List TVar → {m : _} → Row_of-TStmt m → List CStmt
  c_stmts vs end_of-TStmt = []
  c_stmts vs (more_of-TStmt x xs) = c_stmt vs x ++ c_stmts vs xs

  pub c_arms : List TVar → {m : _} → Row_of-TArm m → List CStmt
  c_arms vs end_of-TArm = []
  c_arms vs (more_of-TArm test h body rest) = arm (c_expr vs test) (c_stmts vs body) ∷ c_arms vs rest

  pub c_choices : List TVar → Elem → {m : _} → Row_of-TChoice m → List CStmt
  c_choices vs t end_of-TChoice = []
  c_choices vs t (more_of-TChoice labels h body rest) = choice t labels (c_stmts vs body) ++ c_choices vs t rest

-- ---- the same of lists in the place of rows

abbrev pub list_of : List TVar → List TStmt → List CStmt
list_of vs xs = flat_map (c_stmt vs) xs

abbrev pub arm_of : List TVar → TArm → CStmt
arm_of vs a = arm (c_expr vs a.test) (list_of vs a.body)

abbrev pub choice_of : List TVar → Elem → TChoice → List CStmt
choice_of vs t c = choice t c.labels (list_of vs c.body)

abbrev pub body_stmts : List TVar → TBody → List CStmt
body_stmts vs (St xs) = list_of vs xs
