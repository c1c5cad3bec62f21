-- The typed unit of a source without broken uses: the number of a declaration is its place among the source's
-- declared names, from 0.
use Rattle.std.specs.Prelude.{ℕ, List, [], ◌∷◌, map, ℤ, pos, unsigned_abs, unwrap_or, Option, Some, None, if◌then◌else◌}
use Rattle.std.specs.List.{flat_map, position}
use Rattle.std.specs.Option.{option_map}
use Rattle.std.specs.Str.{bytes_eq}
use Rattle.plc_base.specs.declared.elem.Elem.{Elem}
use Rattle.plc_base.specs.declared.elem.Elem.TheVariants.{Int, Bool as Boolean}
use Rattle.plc_tree.specs.declared.tree.Id.{Id}
use Rattle.plc_tree.specs.declared.tree.Unit.{Unit as Source}
use Rattle.plc_tree.specs.declared.tree.Pou.{Pou}
use Rattle.plc_tree.specs.declared.tree.Section.{Section}
use Rattle.plc_tree.specs.declared.tree.Decl.{Decl}
use Rattle.plc_tree.specs.declared.tree.Spec.{Spec}
use Rattle.plc_tree.specs.declared.tree.Path.{Path}
use Rattle.plc_tree.specs.declared.tree.Expr.{Expr, Row_of-Expr, end_of-Expr, more_of-Expr}
use Rattle.plc_tree.specs.declared.tree.Expr as e
use Rattle.plc_tree.specs.declared.tree.Label.{Label}
use Rattle.plc_tree.specs.declared.tree.Label.TheVariants as label
use Rattle.plc_tree.specs.declared.tree.Init.{Init}
use Rattle.plc_tree.specs.declared.tree.Init as init
use Rattle.plc_tree.specs.declared.tree.Stmt.{Stmt, Row_of-Stmt, end_of-Stmt, more_of-Stmt, Row_of-Arm, end_of-Arm, more_of-Arm, Row_of-Choice, end_of-Choice, more_of-Choice}
use Rattle.plc_tree.specs.declared.tree.Stmt as stmt
use Rattle.plc_tree.specs.declared.tree.Body.{Body}
use Rattle.plc_tree.specs.declared.tree.Body.TheVariants as body
use Rattle.plc_tree.specs.declared.tree.Config.{Config}
use Rattle.plc_tree.specs.declared.tree.Resource.{Resource}
use Rattle.plc_tree.specs.declared.tree.Task.{Task}
use Rattle.plc_tree.specs.declared.tree.Inst.{Inst}
use Rattle.plc_tree.specs.declared.typed.TypeId.{TypeId}
use Rattle.plc_tree.specs.declared.typed.TypeId.TheVariants as of
use Rattle.plc_tree.specs.declared.typed.TUnit.{TUnit}
use Rattle.plc_tree.specs.declared.typed.TPou.{TPou}
use Rattle.plc_tree.specs.declared.typed.TVar.{TVar}
use Rattle.plc_tree.specs.declared.typed.TPath.{TPath}
use Rattle.plc_tree.specs.declared.typed.TExpr.{TExpr}
use Rattle.plc_tree.specs.declared.typed.TExpr.TheVariants as node
use Rattle.plc_tree.specs.declared.typed.TLabel.{TLabel}
use Rattle.plc_tree.specs.declared.typed.TLabel.TheVariants as label_node
use Rattle.plc_tree.specs.declared.typed.TArm.{TArm}
use Rattle.plc_tree.specs.declared.typed.TChoice.{TChoice}
use Rattle.plc_tree.specs.declared.typed.TStmt.{TStmt}
use Rattle.plc_tree.specs.declared.typed.TStmt.TheVariants as does
use Rattle.plc_tree.specs.declared.typed.TBody.{TBody}
use Rattle.plc_tree.specs.declared.typed.TBody.TheVariants as typed_body
use Rattle.plc_tree.specs.declared.typed.TConfig.{TConfig}
use Rattle.plc_tree.specs.declared.typed.TResource.{TResource}
use Rattle.plc_tree.specs.declared.typed.TTask.{TTask}
use Rattle.plc_tree.specs.declared.typed.TInst.{TInst}
use Rattle.plc_typing.specs.Scope.{Types, elem_of_spec, type_in, variables}
use Rattle.plc_typing.specs.Plain.{is_between, side_of, type_of_one}
use Rattle.plc_typing.specs.Uses.{names, words}
use Rattle.plc_tree.specs.Execution.{truth}

-- the declared names, in text order
abbrev pub declared : Source → List (List ℕ)
declared u = words (names u)

-- the place of a name among others, 0 where it isn't there
abbrev pub number_in : List (List ℕ) → List ℕ → ℕ
number_in names name = unwrap_or (position (bytes_eq name) names) 0

abbrev pub type_of : Spec → TypeId
type_of what = of.Elem (elem_of_spec what)

-- the number that a variable starts at, 0 where none is written or it isn't built
abbrev pub number_of_init : Option Init → ℤ
number_of_init None = pos 0
number_of_init (Some (init.Number z want at)) = z
number_of_init (Some (init.Truth b at)) = truth b
number_of_init (Some (init.Span ns at)) = ns
number_of_init (Some (init.Named n)) = pos 0
number_of_init (Some (init.Value owner name at name_at)) = pos 0
number_of_init (Some (init.List' h items at)) = pos 0
number_of_init (Some (init.Struct' h parts at)) = pos 0

abbrev pub typed_var : List (List ℕ) → Section → Decl → Id → TVar
typed_var names s d n = record { id = number_in names n.name; kind = s.kind; constant = s.constant; keep = s.keep; name = n.name; ty = type_of d.spec; init = number_of_init d.init }

abbrev pub typed_decl : List (List ℕ) → Section → Decl → List TVar
typed_decl names s d = map (typed_var names s d) d.names

abbrev pub typed_section : List (List ℕ) → Section → List TVar
typed_section names s = flat_map (typed_decl names s) s.decls

-- ---- bodies

abbrev pub typed_path : List (List ℕ) → Path → TPath
typed_path names p = record { first = number_in names p.first }

-- a number of no meaning in the place of what isn't built
abbrev pub nothing : Elem → TExpr
nothing want = node.Number (pos 0) (of.Elem want)

-- an expression where this type is wanted
unfoldable mutual
  pub typed_expr : List (List ℕ) → Elem → Expr → TExpr
  typed_expr names want (e.Number value prefix at) = node.Number value (of.Elem want)
  typed_expr names want (e.Truth value at) = node.Truth value (of.Elem want)
  typed_expr names want (e.Span ns at) = nothing want
  typed_expr names want (e.Value owner name at name_at) = nothing want
  typed_expr names want (e.Var' first at h parts) = node.Var (record { first = number_in names first }) (of.Elem want)
  typed_expr names want (e.Paren' at h inner) = node.Paren (of.Elem want) (typed_one names want inner)
  typed_expr names want (e.Unary' op at h inner) = node.Unary op (of.Elem want) (typed_one names (type_of_one op) inner)
  typed_expr names want (e.Binary' op at h left k right) = node.Binary op (of.Elem want) (typed_one names (side_of op) left) (typed_one names (side_of op) right)
  typed_expr names want (e.Call' name at h args) = nothing want

  -- the one expression in a row
  pub typed_one : List (List ℕ) → Elem → {m : _} → Row_of-Expr m → TExpr
  typed_one names want end_of-Expr = nothing want
  typed_one names want (more_of-Expr x rest) = typed_expr names want x

abbrev pub typed_if_any : List (List ℕ) → Elem → Option Expr → Option TExpr
typed_if_any names want x = option_map (typed_expr names want) x

abbrev pub typed_label : Label → TLabel
typed_label (label.Range low high at) = label_node.Range low high
typed_label (label.Value owner name at name_at) = label_node.Range (pos 0) (pos 0)

-- the value of an assignment is wanted of the type of its target
unfoldable mutual
  pub typed_stmt : List (List ℕ) → Types → Stmt → TStmt
  typed_stmt names types stmt.Empty = does.Empty
  typed_stmt names types (stmt.Set to from) = does.Set (typed_path names to) (typed_expr names (unwrap_or (types to.first) Int) from)
  typed_stmt names types (stmt.Call name at args) = does.Empty
  typed_stmt names types (stmt.If' h arms k other) = does.If (typed_arms names types arms) (typed_stmts names types other)
  typed_stmt names types (stmt.Case' pick h arms k other) = does.Case (typed_expr names Int pick) (typed_choices names types arms) (typed_stmts names types other)
  typed_stmt names types (stmt.For' var start limit step h body) =
      does.For (typed_path names var) (typed_expr names Int start) (typed_expr names Int limit) (typed_if_any names Int step) (typed_stmts names types body)
  typed_stmt names types (stmt.While' test h body) = does.While (typed_expr names Boolean test) (typed_stmts names types body)
  typed_stmt names types (stmt.Repeat' h body test) = does.Repeat (typed_stmts names types body) (typed_expr names Boolean test)
  typed_stmt names types (stmt.Exit at) = does.Exit
  typed_stmt names types (stmt.Return at) = does.Return

  pub typed_stmts : List (List ℕ) → Types → {m : _} → Row_of-Stmt m → List TStmt
  typed_stmts names types end_of-Stmt = []
  typed_stmts names types (more_of-Stmt x xs) = typed_stmt names types x ∷ typed_stmts names types xs

  pub typed_arms : List (List ℕ) → Types → {m : _} → Row_of-Arm m → List TArm
  typed_arms names types end_of-Arm = []
  typed_arms names types (more_of-Arm test h body rest) = record { test = typed_expr names Boolean test; body = typed_stmts names types body } ∷ typed_arms names types rest

  pub typed_choices : List (List ℕ) → Types → {m : _} → Row_of-Choice m → List TChoice
  typed_choices names types end_of-Choice = []
  typed_choices names types (more_of-Choice labels h body rest) = record { labels = map typed_label labels; body = typed_stmts names types body } ∷ typed_choices names types rest

abbrev pub typed_of_body : List (List ℕ) → Types → Body → TBody
typed_of_body names types (body.St xs) = typed_body.St (map (typed_stmt names types) xs)

-- ---- declarations

abbrev pub typed_pou : List (List ℕ) → Pou → TPou
typed_pou names p = record {
  id = number_in names p.name;
  kind = p.kind;
  name = p.name;
  vars = flat_map (typed_section names) p.sections;
  body = typed_of_body names (type_in (variables p.sections)) p.body;
}

-- a priority is 0 to 65535
abbrev pub priority_of : ℤ → ℕ
priority_of z = if is_between (pos 0) (pos 65535) z then unsigned_abs z else 0

abbrev pub typed_task : List (List ℕ) → Task → TTask
typed_task names t = record { id = number_in names t.name; name = t.name; interval = t.interval; priority = priority_of t.priority.value }

abbrev pub typed_inst : List (List ℕ) → Inst → TInst
typed_inst names i = record { id = number_in names i.name; name = i.name; task = option_map (λ (n : Id). number_in names n.name) i.task; program = number_in names i.program.name }

abbrev pub typed_resource : List (List ℕ) → Resource → TResource
typed_resource names r = record { id = number_in names r.name; name = r.name; tasks = map (typed_task names) r.tasks; insts = map (typed_inst names) r.insts }

abbrev pub typed_config : List (List ℕ) → Config → TConfig
typed_config names c = record { id = number_in names c.name; name = c.name; resources = map (typed_resource names) c.resources }

abbrev pub typed_with : List (List ℕ) → Source → TUnit
typed_with names u = record { pous = map (typed_pou names) u.pous; configs = map (typed_config names) u.configs }

abbrev pub typed : Source → TUnit
typed u = typed_with (declared u) u
