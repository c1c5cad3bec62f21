-- The unit of the stated C for a typed source, file by file.
use Rattle.std.specs.Prelude.{ℕ, ◌+◌, List, [], ◌∷◌, ◌++◌, map, codes, Option, Some, None, pos, if◌then◌else◌}
use Rattle.std.specs.List.{flat_map}
use Rattle.std.specs.Ordering.{int_eq}
use Rattle.plc_base.specs.declared.elem.Elem.TheVariants.{Ulint}
use Rattle.plc_tree.specs.declared.typed.TUnit.{TUnit}
use Rattle.plc_tree.specs.declared.typed.TPou.{TPou}
use Rattle.plc_tree.specs.declared.typed.TVar.{TVar}
use Rattle.plc_tree.specs.declared.typed.TConfig.{TConfig}
use Rattle.plc_tree.specs.declared.typed.TResource.{TResource}
use Rattle.plc_tree.specs.declared.typed.TInst.{TInst}
use Rattle.plc_tree.specs.Rows.{Row, rows, elem_of, pou_in, object_name}
use Rattle.plc_tree.specs.Files.{header_name, code_name}
use Rattle.c_tree.specs.declared.tree.CUnit.{CUnit}
use Rattle.c_tree.specs.declared.tree.CPart.{CPart}
use Rattle.c_tree.specs.declared.tree.CItem.{CItem}
use Rattle.c_tree.specs.declared.tree.CItem.TheVariants as item
use Rattle.c_tree.specs.declared.tree.CType.TheVariants as of
use Rattle.c_tree.specs.declared.tree.CParam.{CParam}
use Rattle.c_tree.specs.declared.tree.CParam.TheVariants as param
use Rattle.c_tree.specs.declared.tree.CRow.TheVariants as row
use Rattle.c_tree.specs.declared.tree.CPath.{CPath, roll-CPath}
use Rattle.c_tree.specs.declared.tree.CSel.TheVariants.{Field}
use Rattle.c_tree.specs.declared.tree.CArg.TheVariants as arg
use Rattle.c_tree.specs.declared.tree.CStmt.{CStmt}
use Rattle.c_tree.specs.declared.tree.CStmt.TheVariants as stmt
use Rattle.c_tree.specs.declared.tree.CExpr.TheVariants as expr
use Rattle.emit_pou.specs.CNames.{init_name, body_name, start_name, run_name, config_init_name, config_run_name, self_name, tick_name}
use Rattle.emit_pou.specs.Expressions.{own, plain_path, literal}
use Rattle.emit_pou.specs.Statements.{body_locals, body_stmts}

-- ---- POUs: a structure of flagged members, the function that sets them, and the function of the body

abbrev pub member : TVar → CItem
member v = item.Object (of.Flagged (elem_of v.ty)) v.name []

abbrev pub pou_struct : TPou → CItem
pou_struct p = item.Struct (map member p.vars) p.name

-- a function without a result, without locals or with those of a body
abbrev pub void_function : List ℕ → List CParam → List CStmt → CItem
void_function name params body = item.Func None name params [] body

abbrev pub working_function : List ℕ → List CParam → List CStmt → CItem
working_function name params body = item.Func None name params body_locals body

abbrev pub self : List ℕ → CParam
self pou = param.Pointer pou self_name

-- a variable that starts at 0 needs no statement
abbrev pub init_stmt : TVar → List CStmt
init_stmt v = if int_eq v.init (pos 0) then [] else stmt.InitVar (own v.name) (literal (elem_of v.ty) v.init) ∷ []

abbrev pub init_stmts : TPou → List CStmt
init_stmts p = flat_map init_stmt p.vars

abbrev pub pou_functions : TPou → List CItem
pou_functions p =
    void_function (init_name p.name) (self p.name ∷ []) (init_stmts p) ∷ working_function (body_name p.name) (self p.name ∷ []) (body_stmts p.vars p.body) ∷ []

-- ---- resources: an object for each program instance, the start, and the share of a scan

abbrev pub name_of : Option TPou → List ℕ
name_of None = []
name_of (Some p) = p.name

-- the name of an instance's program
abbrev pub program_name : TUnit → TInst → List ℕ
program_name u i = name_of (pou_in u.pous i.program)

abbrev pub inst_object : TUnit → TResource → TInst → CItem
inst_object u r i = item.Object (of.Struct (program_name u i)) (object_name r i) []

-- a call of one of the functions of an instance's program
abbrev pub inst_call : List ℕ → TResource → TInst → CStmt
inst_call function r i = stmt.Call function (arg.Address (plain_path (object_name r i)) ∷ [])

abbrev pub init_call : TUnit → TResource → TInst → CStmt
init_call u r i = inst_call (init_name (program_name u i)) r i

abbrev pub body_call : TUnit → TResource → TInst → CStmt
body_call u r i = inst_call (body_name (program_name u i)) r i

abbrev pub tick : CParam
tick = param.Value Ulint tick_name

-- with one task alone each program is due at each tick, in text order
abbrev pub resource_items : TUnit → TResource → List CItem
resource_items u r = map (inst_object u r) r.insts
    ++ (void_function (start_name r.name) [] (map (init_call u r) r.insts) ∷ void_function (run_name r.name) (tick ∷ []) (map (body_call u r) r.insts) ∷ [])

-- ---- the configuration: the start, and a scan

abbrev pub start_call : TResource → CStmt
start_call r = stmt.Call (start_name r.name) []

abbrev pub run_call : TResource → CStmt
run_call r = stmt.Call (run_name r.name) (arg.Value (expr.Path (plain_path tick_name)) ∷ [])

abbrev pub config_items : TConfig → List CItem
config_items c =
    void_function config_init_name [] (map start_call c.resources) ∷ void_function config_run_name (tick ∷ []) (map run_call c.resources) ∷ []

-- ---- debug rows: one for each listed row, numbered from 0

abbrev pub row_path : Row → CPath
row_path r = roll-CPath (record { first = r.object; arrow = None; parts = map Field r.fields })

abbrev pub debug_row : ℕ → Row → CItem
debug_row k r = item.DebugRow k r.elem (row_path r) row.Var

abbrev pub debug_rows_from : ℕ → List Row → List CItem
debug_rows_from k [] = []
debug_rows_from k (r ∷ rs) = debug_row k r ∷ debug_rows_from (k + 1) rs

abbrev pub debug_items : TUnit → List CItem
debug_items u = debug_rows_from 0 (rows u)

-- ---- the files, in order

abbrev pub part : List ℕ → List CItem → CPart
part name items = record { name = name; items = items }

-- the objects of a configuration's globals: there are none yet
abbrev pub header_part : TConfig → CPart
header_part c = part (header_name c.name) []

abbrev pub resource_part : TUnit → TResource → CPart
resource_part u r = part (code_name r.name) (resource_items u r)

abbrev pub config_parts : TUnit → TConfig → List CPart
config_parts u c = map (resource_part u) c.resources ++ (part (code_name c.name) (config_items c) ∷ [])

abbrev pub c_unit : TUnit → CUnit
c_unit u = record {
  parts = part (codes "POUS.h") (map pou_struct u.pous)
      ∷ (map header_part u.configs
      ++ (part (codes "POUS.c") (flat_map pou_functions u.pous) ∷ (flat_map (config_parts u) u.configs ++ (part (codes "plc_debugger.c") (debug_items u) ∷ []))));
}
