-- How many brackets and braces are open at once, and how deep functions call one another.
use Rattle.std.specs.Prelude.{ℕ, ◌+◌, max, List, [], ◌∷◌, ◌++◌, Option, Some, None, if◌then◌else◌}
use Rattle.std.specs.List.{flat_map}
use Rattle.std.specs.Str.{bytes_eq}
use Rattle.c_tree.specs.declared.tree.CItem.{CItem, Struct', Object, Located, Func, DebugRow}
use Rattle.c_tree.specs.declared.tree.CLocal.{CLocal}
use Rattle.c_tree.specs.declared.tree.CPath.{CPath}
use Rattle.c_tree.specs.declared.tree.CSel.{CSel}
use Rattle.c_tree.specs.declared.tree.CSel as sel
use Rattle.c_tree.specs.declared.tree.CArg.{CArg}
use Rattle.c_tree.specs.declared.tree.CArg as arg
use Rattle.c_tree.specs.declared.tree.CStmt.{CStmt, Row_of-CStmt, end_of-CStmt, more_of-CStmt, Held-CStmt-If-2, None', Some'}
use Rattle.c_tree.specs.declared.tree.CStmt as stmt
use Rattle.c_tree.specs.declared.tree.CExpr.{CExpr, Row_of-CExpr, end_of-CExpr, more_of-CExpr, Row_of-CSel, end_of-CSel, more_of-CSel, Row_of-CArg, end_of-CArg, more_of-CArg}
use Rattle.c_tree.specs.declared.tree.CExpr as expr
use Rattle.c_meaning.specs.Items.{Variable, Function, row_objects}

abbrev pub greatest : {A : Type 0} → (A → ℕ) → List A → ℕ
greatest f [] = 0
greatest f (x ∷ xs) = max (f x) (greatest f xs)

-- ---- brackets and braces that are open at once

abbrev mutual
  pub open_expr : CExpr → ℕ
  open_expr (expr.Number value kind) = 0
  open_expr (expr.Path' first arrow h parts) = open_parts parts
  open_expr expr.Moment = 0
  open_expr (expr.GetVar' first arrow h parts) = 1 + open_parts parts
  open_expr (expr.GetLocated' first arrow h parts) = 1 + open_parts parts
  open_expr (expr.Call' name h args) = 1 + open_args args
  open_expr (expr.Bin' op h left k right) = 1 + max (open_side left) (open_side right)
  open_expr (expr.Un' op h inner) = 1 + open_side inner
  -- the parenthesis of the type is closed before what is cast
  open_expr (expr.Cast' to h inner) = 1 + max 1 (open_side inner)

  pub open_side : {m : _} → Row_of-CExpr m → ℕ
  open_side end_of-CExpr = 0
  open_side (more_of-CExpr e rest) = open_expr e

  pub open_sel : CSel → ℕ
  open_sel (sel.Field name) = 0
  open_sel (sel.Index e) = 1 + open_expr e

  pub open_parts : {m : _} → Row_of-CSel m → ℕ
  open_parts end_of-CSel = 0
  open_parts (more_of-CSel x rest) = max (open_sel x) (open_parts rest)

  pub open_arg : CArg → ℕ
  open_arg (arg.Value e) = open_expr e
  open_arg (arg.Address' first arrow h parts) = open_parts parts
  open_arg (arg.Pass name) = 0

  pub open_args : {m : _} → Row_of-CArg m → ℕ
  open_args end_of-CArg = 0
  open_args (more_of-CArg x rest) = max (open_arg x) (open_args rest)

abbrev pub open_path : CPath → ℕ
open_path p = greatest open_sel p.parts

abbrev pub open_value : Option CExpr → ℕ
open_value None = 0
open_value (Some e) = open_expr e

abbrev mutual
  pub open_stmt : CStmt → ℕ
  open_stmt (stmt.Set to from) = max (open_path to) (open_expr from)
  open_stmt (stmt.InitVar to from) = 1 + max (open_path to) (open_expr from)
  open_stmt (stmt.SetVar to from) = 1 + max (open_path to) (open_expr from)
  open_stmt (stmt.InitLocated to cell) = 1 + open_path to
  open_stmt (stmt.SetLocated to from) = 1 + max (open_path to) (open_expr from)
  open_stmt (stmt.Copy to from) = 1 + max (open_path to) (open_path from)
  open_stmt (stmt.Publish p) = 1 + open_path p
  open_stmt (stmt.Call name args) = 1 + greatest open_arg args
  -- the parenthesis of the test is closed before the brace
  open_stmt (stmt.If' test h body other) = max (1 + open_expr test) (max (1 + open_stmts body) (open_else other))
  open_stmt (stmt.While' test h body) = max (1 + open_expr test) (1 + open_stmts body)
  open_stmt stmt.Break = 0
  open_stmt (stmt.Goto name) = 0
  open_stmt (stmt.Label name) = 0
  open_stmt (stmt.Return value) = open_value value

  pub open_stmts : {m : _} → Row_of-CStmt m → ℕ
  open_stmts end_of-CStmt = 0
  open_stmts (more_of-CStmt x rest) = max (open_stmt x) (open_stmts rest)

  pub open_else : Held-CStmt-If-2 → ℕ
  open_else None' = 0
  open_else (Some' h stmts) = 1 + open_stmts stmts

abbrev pub open_dims : List ℕ → ℕ
open_dims [] = 0
open_dims (d ∷ ds) = 1

abbrev pub open_function : Function → ℕ
open_function f = max 1 (1 + max (greatest (λ (l : CLocal). open_expr l.init) f.locals) (greatest open_stmt f.body))

abbrev pub open_item : CItem → ℕ
open_item (Struct' h members name) = 1 + greatest (λ (m : Variable). open_dims m.dims) (row_objects members)
open_item (Object ty name dims) = open_dims dims
open_item (Located elem name dir size numbers) = 1
open_item (Func result name params locals body) = open_function (record { result = result; name = name; params = params; locals = locals; body = body })
open_item (DebugRow number e p kind) = 1 + open_path p

-- ---- calls

-- the functions that an expression calls
abbrev mutual
  pub callees_of_expr : CExpr → List (List ℕ)
  callees_of_expr (expr.Number value kind) = []
  callees_of_expr (expr.Path' first arrow h parts) = callees_of_parts parts
  callees_of_expr expr.Moment = []
  callees_of_expr (expr.GetVar' first arrow h parts) = callees_of_parts parts
  callees_of_expr (expr.GetLocated' first arrow h parts) = callees_of_parts parts
  callees_of_expr (expr.Call' name h args) = name ∷ callees_of_args args
  callees_of_expr (expr.Bin' op h left k right) = callees_of_side left ++ callees_of_side right
  callees_of_expr (expr.Un' op h inner) = callees_of_side inner
  callees_of_expr (expr.Cast' to h inner) = callees_of_side inner

  pub callees_of_side : {m : _} → Row_of-CExpr m → List (List ℕ)
  callees_of_side end_of-CExpr = []
  callees_of_side (more_of-CExpr e rest) = callees_of_expr e

  pub callees_of_sel : CSel → List (List ℕ)
  callees_of_sel (sel.Field name) = []
  callees_of_sel (sel.Index e) = callees_of_expr e

  pub callees_of_parts : {m : _} → Row_of-CSel m → List (List ℕ)
  callees_of_parts end_of-CSel = []
  callees_of_parts (more_of-CSel x rest) = callees_of_sel x ++ callees_of_parts rest

  pub callees_of_arg : CArg → List (List ℕ)
  callees_of_arg (arg.Value e) = callees_of_expr e
  callees_of_arg (arg.Address' first arrow h parts) = callees_of_parts parts
  callees_of_arg (arg.Pass name) = []

  pub callees_of_args : {m : _} → Row_of-CArg m → List (List ℕ)
  callees_of_args end_of-CArg = []
  callees_of_args (more_of-CArg x rest) = callees_of_arg x ++ callees_of_args rest

abbrev pub callees_of_path : CPath → List (List ℕ)
callees_of_path p = flat_map callees_of_sel p.parts

abbrev pub callees_of_value : Option CExpr → List (List ℕ)
callees_of_value None = []
callees_of_value (Some e) = callees_of_expr e

-- and a statement
abbrev mutual
  pub callees_of : CStmt → List (List ℕ)
  callees_of (stmt.Set to from) = callees_of_path to ++ callees_of_expr from
  callees_of (stmt.InitVar to from) = callees_of_path to ++ callees_of_expr from
  callees_of (stmt.SetVar to from) = callees_of_path to ++ callees_of_expr from
  callees_of (stmt.InitLocated to cell) = callees_of_path to
  callees_of (stmt.SetLocated to from) = callees_of_path to ++ callees_of_expr from
  callees_of (stmt.Copy to from) = callees_of_path to ++ callees_of_path from
  callees_of (stmt.Publish p) = callees_of_path p
  callees_of (stmt.Call name args) = name ∷ flat_map callees_of_arg args
  callees_of (stmt.If' test h body other) = callees_of_expr test ++ callees_in body ++ callees_of_else other
  callees_of (stmt.While' test h body) = callees_of_expr test ++ callees_in body
  callees_of stmt.Break = []
  callees_of (stmt.Goto name) = []
  callees_of (stmt.Label name) = []
  callees_of (stmt.Return value) = callees_of_value value

  pub callees_in : {m : _} → Row_of-CStmt m → List (List ℕ)
  callees_in end_of-CStmt = []
  callees_in (more_of-CStmt x rest) = callees_of x ++ callees_in rest

  pub callees_of_else : Held-CStmt-If-2 → List (List ℕ)
  callees_of_else None' = []
  callees_of_else (Some' h stmts) = callees_in stmts

abbrev pub function_callees : Function → List (List ℕ)
function_callees f = flat_map (λ (l : CLocal). callees_of_expr l.init) f.locals ++ flat_map callees_of f.body

-- the depth of the function with this name, the last function first: 1, its open brackets and braces, and the greatest
-- depth of one that it calls; a name that isn't defined above adds nothing
abbrev pub depth_of : List Function → List ℕ → ℕ
depth_of [] name = 0
depth_of (f ∷ above) name = if bytes_eq f.name name then 1 + open_function f + greatest (depth_of above) (function_callees f) else depth_of above name
