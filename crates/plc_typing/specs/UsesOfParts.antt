-- The broken uses of parts of statements, over lists in place of rows, and what the walk over declared names tells.
use Rattle.std.specs.Prelude.{◌≡◌, ℕ, Bool, List, [], ◌++◌, Option, Some}
use Rattle.std.specs.List.{flat_map}
use Rattle.plc_base.specs.declared.elem.Elem.TheVariants.{Int, Bool as Boolean}
use Rattle.plc_base.specs.declared.refusal.Refusal.{Refusal}
use Rattle.plc_base.specs.Least.{Meets}
use Rattle.plc_tree.specs.declared.tree.Id.{Id}
use Rattle.plc_tree.specs.declared.tree.Path.{Path}
use Rattle.plc_tree.specs.declared.tree.Expr.{Expr}
use Rattle.plc_tree.specs.declared.tree.Arm.{Arm}
use Rattle.plc_tree.specs.declared.tree.Choice.{Choice}
use Rattle.plc_typing.specs.Plain.{is_of}
use Rattle.plc_typing.specs.Scope.{Types}
use Rattle.plc_typing.specs.Standard.{is_one_of}
use Rattle.plc_typing.specs.Uses.{suits, part_faults, path_faults, expr_faults, step_faults, label_faults, stmt_faults, words, names_faults}

-- an assignment
abbrev pub set_faults : Types → Path → Expr → List Refusal
set_faults types to from = path_faults types to ++ expr_faults types (types to.first) from

-- the variable of a FOR, its start and its limit
abbrev pub counted_faults : Types → Path → Expr → Expr → List Refusal
counted_faults types var start limit = suits (is_of Int (types var.first)) var.at ++ (flat_map part_faults var.parts ++ (expr_faults types (Some Int) start ++ expr_faults types (Some Int) limit))

-- all of a FOR but its statements
abbrev pub for_faults : Types → Path → Expr → Expr → Option Expr → List Refusal
for_faults types var start limit step = counted_faults types var start limit ++ step_faults types step

-- a condition of IF with its statements
abbrev pub arm_faults : Types → Bool → Arm → List Refusal
arm_faults types inside a = expr_faults types (Some Boolean) a.test ++ flat_map (stmt_faults types inside) a.body

-- the labels of CASE with their statements
abbrev pub choice_faults : Types → Bool → Choice → List Refusal
choice_faults types inside c = flat_map label_faults c.labels ++ flat_map (stmt_faults types inside) c.body

-- ---- declared names

-- these names were declared behind others, and the broken ones of them were met: a word is there now where it was or is
-- one of theirs, and where none of them is broken, theirs stand behind the others
pub record Declares (ids : List Id) (before now : List (List ℕ)) (met meets : Option Refusal) : Type 0 where
  pub least : Meets (names_faults before ids) met meets
  pub known : (name : List ℕ) → is_one_of now name ≡ is_one_of (before ++ words ids) name
  pub behind : names_faults before ids ≡ [] → now ≡ before ++ words ids
