-- How high the trees of bodies are: a literal, a plain name and a value of an enumeration have 0; a parenthesis, an
-- operator, a call, an index and a statement with statements in it have one more than their highest part; a path has
-- the height of its highest index.
use Rattle.std.specs.Prelude.{ℕ, ◌+◌, max, List, [], ◌∷◌, Option, Some, None}
use Rattle.plc_tree.specs.declared.tree.Expr as e
use Rattle.plc_tree.specs.declared.tree.Expr.{Expr, Row_of-Expr, end_of-Expr, more_of-Expr, Row_of-Part, end_of-Part, more_of-Part, Row_of-Arg, end_of-Arg, more_of-Arg}
use Rattle.plc_tree.specs.declared.tree.Path.{Path}
use Rattle.plc_tree.specs.declared.tree.Part.{Part}
use Rattle.plc_tree.specs.declared.tree.Part as in_part
use Rattle.plc_tree.specs.declared.tree.Arg.{Arg}
use Rattle.plc_tree.specs.declared.tree.Arg as in_arg
use Rattle.plc_tree.specs.declared.tree.Stmt.{Stmt, Row_of-Stmt, end_of-Stmt, more_of-Stmt, Row_of-Arm, end_of-Arm, more_of-Arm, Row_of-Choice, end_of-Choice, more_of-Choice}
use Rattle.plc_tree.specs.declared.tree.Stmt as s
use Rattle.plc_tree.specs.declared.tree.Body.{Body}
use Rattle.plc_tree.specs.declared.tree.Body.TheVariants.{St}

abbrev mutual
  pub height : Expr → ℕ
  height (e.Number z want at) = 0
  height (e.Truth b at) = 0
  height (e.Span ns at) = 0
  height (e.Value owner name at name_at) = 0
  height (e.Var' first at h parts) = parts_height parts
  height (e.Paren' at h inner) = height_one inner + 1
  height (e.Unary' op at h inner) = height_one inner + 1
  height (e.Binary' op at h l k r) = max (height_one l) (height_one r) + 1
  height (e.Call' name at h args) = args_height args + 1

  -- of the one expression in a row
  pub height_one : {m : _} → Row_of-Expr m → ℕ
  height_one end_of-Expr = 0
  height_one (more_of-Expr x rest) = height x

  -- of the highest expression in a row
  pub exprs_height : {m : _} → Row_of-Expr m → ℕ
  exprs_height end_of-Expr = 0
  exprs_height (more_of-Expr x rest) = max (height x) (exprs_height rest)

  pub parts_height : {m : _} → Row_of-Part m → ℕ
  parts_height end_of-Part = 0
  parts_height (more_of-Part p rest) = max (part_height p) (parts_height rest)

  pub part_height : Part → ℕ
  part_height (in_part.Field name at dot) = 0
  part_height (in_part.Index' h list at) = exprs_height list + 1

  pub args_height : {m : _} → Row_of-Arg m → ℕ
  args_height end_of-Arg = 0
  args_height (more_of-Arg a rest) = max (arg_height a) (args_height rest)

  pub arg_height : Arg → ℕ
  arg_height (in_arg.Plain x) = height x
  arg_height (in_arg.Named name at x) = height x
  arg_height (in_arg.Out' negate name at first to_at h parts) = parts_height parts

abbrev pub height_if_any : Option Expr → ℕ
height_if_any None = 0
height_if_any (Some x) = height x

-- a path by itself
abbrev pub path_height : Path → ℕ
path_height p = height (e.Var p)

abbrev mutual
  pub stmt_height : Stmt → ℕ
  stmt_height s.Empty = 0
  stmt_height (s.Set to from) = max (path_height to) (height from)
  stmt_height (s.Call name at args) = height (e.Call name at args)
  stmt_height (s.If' h arms k other) = max (arms_height arms) (stmts_height other) + 1
  stmt_height (s.Case' pick h arms k other) = max (height pick) (max (choices_height arms) (stmts_height other)) + 1
  stmt_height (s.For' var start limit step h body) = max (path_height var) (max (height start) (max (height limit) (max (height_if_any step) (stmts_height body)))) + 1
  stmt_height (s.While' test h body) = max (height test) (stmts_height body) + 1
  stmt_height (s.Repeat' h body test) = max (stmts_height body) (height test) + 1
  stmt_height (s.Exit at) = 0
  stmt_height (s.Return at) = 0

  pub stmts_height : {m : _} → Row_of-Stmt m → ℕ
  stmts_height end_of-Stmt = 0
  stmts_height (more_of-Stmt x xs) = max (stmt_height x) (stmts_height xs)

  pub arms_height : {m : _} → Row_of-Arm m → ℕ
  arms_height end_of-Arm = 0
  arms_height (more_of-Arm test h body rest) = max (height test) (max (stmts_height body) (arms_height rest))

  pub choices_height : {m : _} → Row_of-Choice m → ℕ
  choices_height end_of-Choice = 0
  choices_height (more_of-Choice labels h body rest) = max (stmts_height body) (choices_height rest)

abbrev pub list_height : List Stmt → ℕ
list_height [] = 0
list_height (x ∷ xs) = max (stmt_height x) (list_height xs)

abbrev pub body_height : Body → ℕ
body_height (St xs) = list_height xs
