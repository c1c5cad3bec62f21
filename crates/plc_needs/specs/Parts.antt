-- What parts of initial values and of statements need, over lists in place of rows.
use Rattle.std.specs.Prelude.{List, ◌++◌, Option}
use Rattle.std.specs.List.{flat_map}
use Rattle.plc_tree.specs.declared.tree.Id.{Id}
use Rattle.plc_tree.specs.declared.tree.Path.{Path}
use Rattle.plc_tree.specs.declared.tree.Expr.{Expr}
use Rattle.plc_tree.specs.declared.tree.Arm.{Arm}
use Rattle.plc_tree.specs.declared.tree.Choice.{Choice}
use Rattle.plc_tree.specs.declared.tree.InitPart.{InitPart}
use Rattle.plc_names.specs.Needs.{IsOwn, init_owners, path_needs, expr_needs, step_needs, label_needs, stmt_needs}

-- what a field starts at
abbrev pub field_owners : InitPart → List Id
field_owners p = init_owners p.init

-- all of a FOR but its statements
abbrev pub for_needs : IsOwn → Path → Expr → Expr → Option Expr → List Id
for_needs own var start limit step = path_needs own var ++ (expr_needs own start ++ (expr_needs own limit ++ step_needs own step))

-- a condition of IF with its statements
abbrev pub arm_needs : IsOwn → Arm → List Id
arm_needs own a = expr_needs own a.test ++ flat_map (stmt_needs own) a.body

-- the labels of CASE with their statements
abbrev pub choice_needs : IsOwn → Choice → List Id
choice_needs own c = flat_map label_needs c.labels ++ flat_map (stmt_needs own) c.body
