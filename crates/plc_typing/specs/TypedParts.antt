-- The typed trees of parts of statements, over lists in place of rows.
use Rattle.std.specs.Prelude.{ℕ, List, map, unwrap_or, Option}
use Rattle.plc_base.specs.declared.elem.Elem.TheVariants.{Int, Bool as Boolean}
use Rattle.plc_tree.specs.declared.tree.Path.{Path}
use Rattle.plc_tree.specs.declared.tree.Expr.{Expr}
use Rattle.plc_tree.specs.declared.tree.Arm.{Arm}
use Rattle.plc_tree.specs.declared.tree.Choice.{Choice}
use Rattle.plc_tree.specs.declared.typed.TArm.{TArm}
use Rattle.plc_tree.specs.declared.typed.TChoice.{TChoice}
use Rattle.plc_tree.specs.declared.typed.TStmt.{TStmt}
use Rattle.plc_tree.specs.declared.typed.TStmt.TheVariants as does
use Rattle.plc_typing.specs.Scope.{Types}
use Rattle.plc_typing.specs.Typing.{typed_path, typed_expr, typed_if_any, typed_label, typed_stmt}

-- an assignment
abbrev pub typed_set : List (List ℕ) → Types → Path → Expr → TStmt
typed_set names types to from = does.Set (typed_path names to) (typed_expr names (unwrap_or (types to.first) Int) from)

-- a FOR of these typed statements
abbrev pub typed_for : List (List ℕ) → Path → Expr → Expr → Option Expr → List TStmt → TStmt
typed_for names var start limit step body = does.For (typed_path names var) (typed_expr names Int start) (typed_expr names Int limit) (typed_if_any names Int step) body

-- a condition of IF with its statements
abbrev pub typed_arm : List (List ℕ) → Types → Arm → TArm
typed_arm names types a = record { test = typed_expr names Boolean a.test; body = map (typed_stmt names types) a.body }

-- the labels of CASE with their statements
abbrev pub typed_choice : List (List ℕ) → Types → Choice → TChoice
typed_choice names types c = record { labels = map typed_label c.labels; body = map (typed_stmt names types) c.body }
