-- Short ways to write the trees of worked units.
use Prim.Native.String.{String}
use Rattle.std.specs.Prelude.{ℕ, List, [], ◌∷◌, ◌++◌, Some, None, codes}
use Rattle.plc_base.specs.declared.elem.Elem.{Elem}
use Rattle.plc_base.specs.declared.elem.Elem.TheVariants.{Int as INT}
use Rattle.c_tree.specs.declared.tree.CArg.{CArg}
use Rattle.c_tree.specs.declared.tree.CExpr.{CExpr}
use Rattle.c_tree.specs.declared.tree.CExpr.TheVariants as expr
use Rattle.c_tree.specs.declared.tree.CItem.{CItem, Struct, Object, Located, Func, DebugRow}
use Rattle.c_tree.specs.declared.tree.CLocal.{CLocal}
use Rattle.c_tree.specs.declared.tree.CNum.TheVariants.{Int}
use Rattle.c_tree.specs.declared.tree.CParam.{CParam}
use Rattle.c_tree.specs.declared.tree.CParam.TheVariants as param
use Rattle.c_tree.specs.declared.tree.CPath.{CPath, roll-CPath}
use Rattle.c_tree.specs.declared.tree.CRow.{CRow}
use Rattle.c_tree.specs.declared.tree.CSel.{CSel}
use Rattle.c_tree.specs.declared.tree.CSel.TheVariants as sel
use Rattle.c_tree.specs.declared.tree.CStmt.{CStmt}
use Rattle.c_tree.specs.declared.tree.CStmt as stmt
use Rattle.c_tree.specs.declared.tree.CType.{CType}
use Rattle.c_tree.specs.declared.tree.CType.TheVariants as of
use Rattle.c_tree.specs.declared.tree.CUnit.{CUnit}

-- ---- paths

-- X
abbrev pub alone : String → CPath
alone name = roll-CPath (record { first = codes name; arrow = None; parts = [] })

-- X and parts
abbrev pub parts_of : String → List CSel → CPath
parts_of name parts = roll-CPath (record { first = codes name; arrow = None; parts = parts })

-- p->M and parts
abbrev pub through : String → String → List CSel → CPath
through name member parts = roll-CPath (record { first = codes name; arrow = Some (codes member); parts = parts })

-- .M
abbrev pub dot : String → CSel
dot name = sel.Field (codes name)

-- [k]
abbrev pub nth : ℕ → CSel
nth k = sel.Index (expr.Number k Int)

-- ---- expressions

abbrev pub int : ℕ → CExpr
int k = expr.Number k Int

abbrev pub read : String → CExpr
read name = expr.Path (alone name)

abbrev pub called : String → List CArg → CExpr
called name args = expr.Call (codes name) args

-- ---- statements

-- X = e;
abbrev pub set : String → CExpr → CStmt
set name e = stmt.Set (alone name) e

abbrev pub call : String → List CArg → CStmt
call name args = stmt.Call (codes name) args

abbrev pub goto : String → CStmt
goto name = stmt.Goto (codes name)

abbrev pub label : String → CStmt
label name = stmt.Label (codes name)

-- ---- items

abbrev pub object : CType → String → CItem
object ty name = Object ty (codes name) []

abbrev pub array : CType → String → List ℕ → CItem
array ty name dims = Object ty (codes name) dims

-- objects of INT: INT X; and with flags, and a cell with flags
abbrev pub plain : String → CItem
plain name = object (of.Plain INT) name

abbrev pub flagged : String → CItem
flagged name = object (of.Flagged INT) name

abbrev pub celled : String → CItem
celled name = object (of.Celled INT) name

-- S X;
abbrev pub of_structure : String → String → CItem
of_structure structure name = object (of.Struct (codes structure)) name

abbrev pub structure : String → List CItem → CItem
structure name members = Struct members (codes name)

-- a cell with the address %QW0
abbrev pub cell : Elem → String → CItem
cell e name = Located e (codes name) 81 87 (0 ∷ [])

abbrev pub row : ℕ → Elem → CPath → CRow → CItem
row number e path kind = DebugRow number e path kind

abbrev pub value : Elem → String → CParam
value e name = param.Value e (codes name)

abbrev pub pointer : String → String → CParam
pointer to name = param.Pointer (codes to) (codes name)

abbrev pub local : Elem → String → CExpr → CLocal
local e name init = record { elem = e; name = codes name; init = init }

abbrev pub void : String → List CParam → List CLocal → List CStmt → CItem
void name params locals body = Func None (codes name) params locals body

abbrev pub function : Elem → String → List CParam → List CLocal → List CStmt → CItem
function e name params locals body = Func (Some e) (codes name) params locals body

-- ---- units

-- of one text
abbrev pub unit_of : List CItem → CUnit
unit_of items = record { parts = record { name = codes "unit.c"; items = items } ∷ [] }

-- of two
abbrev pub unit_of_two : List CItem → List CItem → CUnit
unit_of_two first second = record { parts = record { name = codes "unit.h"; items = first } ∷ record { name = codes "unit.c"; items = second } ∷ [] }

-- of one text that ends with void f(void){ statements }
abbrev pub unit_that : List CItem → List CStmt → CUnit
unit_that items statements = unit_of (items ++ (void "f" [] [] statements ∷ []))
