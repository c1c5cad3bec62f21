-- That the names of a tree are names, and its numbers those of the types of their suffixes.
use Rattle.std.specs.Prelude.{ℕ, List, [], ◌∷◌, Option, Some, None, IsTrue}
use Rattle.plc_base.specs.Addresses.{is_direction, is_size}
use Rattle.c_tree.specs.declared.tree.CArg.{CArg}
use Rattle.c_tree.specs.declared.tree.CArg as arg
use Rattle.c_tree.specs.declared.tree.CExpr.{CExpr, Row_of-CExpr, end_of-CExpr, more_of-CExpr, Row_of-CSel, end_of-CSel, more_of-CSel, Row_of-CArg, end_of-CArg, more_of-CArg}
use Rattle.c_tree.specs.declared.tree.CExpr as expr
use Rattle.c_tree.specs.declared.tree.CItem.{CItem, Struct', Object, Located, Func, DebugRow, Row_of-CItem, end_of-CItem, more_of-CItem}
use Rattle.c_tree.specs.declared.tree.CLocal.{CLocal}
use Rattle.c_tree.specs.declared.tree.CNum.TheVariants as kinds
use Rattle.c_tree.specs.declared.tree.CParam.{CParam}
use Rattle.c_tree.specs.declared.tree.CParam.TheVariants.{Value as ValueParam, Pointer}
use Rattle.c_tree.specs.declared.tree.CPart.{CPart}
use Rattle.c_tree.specs.declared.tree.CPath.{CPath}
use Rattle.c_tree.specs.declared.tree.CSel.{CSel}
use Rattle.c_tree.specs.declared.tree.CSel as sel
use Rattle.c_tree.specs.declared.tree.CStmt.{CStmt, Row_of-CStmt, end_of-CStmt, more_of-CStmt, Held-CStmt-If-2, None', Some'}
use Rattle.c_tree.specs.declared.tree.CStmt as stmt
use Rattle.c_tree.specs.declared.tree.CType.{CType}
use Rattle.c_tree.specs.declared.tree.CType.TheVariants.{Plain, Flagged, Celled, Struct as StructType}
use Rattle.c_tree.specs.declared.tree.CUnit.{CUnit}
use Rattle.c_tree.specs.CTokens.{IsName, IsOfKind}

-- of each of a list
abbrev pub Every : {A : Type 0} → (A → Type 0) → List A → Type 0
Every P [] = Unit {0}
Every P (x ∷ xs) = P x × Every P xs

abbrev pub IsInt : ℕ → Type 0
IsInt n = IsOfKind n kinds.Int

abbrev pub WellSpelledArrow : Option (List ℕ) → Type 0
WellSpelledArrow None = Unit {0}
WellSpelledArrow (Some name) = IsName name

abbrev mutual
  pub WellSpelledExpr : CExpr → Type 0
  WellSpelledExpr (expr.Number value kind) = IsOfKind value kind
  WellSpelledExpr (expr.Path' first arrow h parts) = IsName first × WellSpelledArrow arrow × WellSpelledParts parts
  WellSpelledExpr expr.Moment = Unit {0}
  WellSpelledExpr (expr.GetVar' first arrow h parts) = IsName first × WellSpelledArrow arrow × WellSpelledParts parts
  WellSpelledExpr (expr.GetLocated' first arrow h parts) = IsName first × WellSpelledArrow arrow × WellSpelledParts parts
  WellSpelledExpr (expr.Call' name h args) = IsName name × WellSpelledArgs args
  WellSpelledExpr (expr.Bin' op h left k right) = WellSpelledSide left × WellSpelledSide right
  WellSpelledExpr (expr.Un' op h inner) = WellSpelledSide inner
  WellSpelledExpr (expr.Cast' to h inner) = WellSpelledSide inner

  pub WellSpelledSide : {m : _} → Row_of-CExpr m → Type 0
  WellSpelledSide end_of-CExpr = ⊥
  WellSpelledSide (more_of-CExpr e rest) = WellSpelledExpr e

  pub WellSpelledSel : CSel → Type 0
  WellSpelledSel (sel.Field name) = IsName name
  WellSpelledSel (sel.Index e) = WellSpelledExpr e

  pub WellSpelledParts : {m : _} → Row_of-CSel m → Type 0
  WellSpelledParts end_of-CSel = Unit {0}
  WellSpelledParts (more_of-CSel x rest) = WellSpelledSel x × WellSpelledParts rest

  pub WellSpelledArg : CArg → Type 0
  WellSpelledArg (arg.Value e) = WellSpelledExpr e
  WellSpelledArg (arg.Address' first arrow h parts) = IsName first × WellSpelledArrow arrow × WellSpelledParts parts
  WellSpelledArg (arg.Pass name) = IsName name

  pub WellSpelledArgs : {m : _} → Row_of-CArg m → Type 0
  WellSpelledArgs end_of-CArg = Unit {0}
  WellSpelledArgs (more_of-CArg x rest) = WellSpelledArg x × WellSpelledArgs rest

-- a path by itself
pub record WellSpelledPath (p : CPath) : Type 0 where
  pub first : IsName p.first
  pub arrow : WellSpelledArrow p.arrow
  pub parts : Every WellSpelledSel p.parts

-- what stands behind `return`
abbrev pub WellSpelledValue : Option CExpr → Type 0
WellSpelledValue None = Unit {0}
WellSpelledValue (Some e) = WellSpelledExpr e

abbrev mutual
  pub WellSpelledStmt : CStmt → Type 0
  WellSpelledStmt (stmt.Set to from) = WellSpelledPath to × WellSpelledExpr from
  WellSpelledStmt (stmt.InitVar to from) = WellSpelledPath to × WellSpelledExpr from
  WellSpelledStmt (stmt.SetVar to from) = WellSpelledPath to × WellSpelledExpr from
  WellSpelledStmt (stmt.InitLocated to cell) = WellSpelledPath to × IsName cell
  WellSpelledStmt (stmt.SetLocated to from) = WellSpelledPath to × WellSpelledExpr from
  WellSpelledStmt (stmt.Copy to from) = WellSpelledPath to × WellSpelledPath from
  WellSpelledStmt (stmt.Publish p) = WellSpelledPath p
  WellSpelledStmt (stmt.Call name args) = IsName name × Every WellSpelledArg args
  WellSpelledStmt (stmt.If' test h body other) = WellSpelledExpr test × WellSpelledStmts body × WellSpelledElse other
  WellSpelledStmt (stmt.While' test h body) = WellSpelledExpr test × WellSpelledStmts body
  WellSpelledStmt stmt.Break = Unit {0}
  WellSpelledStmt (stmt.Goto name) = IsName name
  WellSpelledStmt (stmt.Label name) = IsName name
  WellSpelledStmt (stmt.Return value) = WellSpelledValue value

  pub WellSpelledStmts : {m : _} → Row_of-CStmt m → Type 0
  WellSpelledStmts end_of-CStmt = Unit {0}
  WellSpelledStmts (more_of-CStmt x rest) = WellSpelledStmt x × WellSpelledStmts rest

  pub WellSpelledElse : Held-CStmt-If-2 → Type 0
  WellSpelledElse None' = Unit {0}
  WellSpelledElse (Some' h stmts) = WellSpelledStmts stmts

abbrev pub WellSpelledType : CType → Type 0
WellSpelledType (Plain e) = Unit {0}
WellSpelledType (Flagged e) = Unit {0}
WellSpelledType (Celled e) = Unit {0}
WellSpelledType (StructType name) = IsName name

abbrev pub WellSpelledParam : CParam → Type 0
WellSpelledParam (ValueParam e name) = IsName name
WellSpelledParam (Pointer to name) = IsName to × IsName name

pub record WellSpelledLocal (l : CLocal) : Type 0 where
  pub name : IsName l.name
  pub init : WellSpelledExpr l.init

abbrev mutual
  pub WellSpelledItem : CItem → Type 0
  WellSpelledItem (Struct' h members name) = WellSpelledRow members × IsName name
  WellSpelledItem (Object ty name dims) = WellSpelledType ty × IsName name × Every IsInt dims
  WellSpelledItem (Located e name dir size numbers) = IsName name × IsTrue (is_direction dir) × IsTrue (is_size size) × Every IsInt numbers
  WellSpelledItem (Func result name params locals body) = IsName name × Every WellSpelledParam params × Every WellSpelledLocal locals × Every WellSpelledStmt body
  WellSpelledItem (DebugRow n e p kind) = IsInt n × WellSpelledPath p

  pub WellSpelledRow : {m : _} → Row_of-CItem m → Type 0
  WellSpelledRow end_of-CItem = Unit {0}
  WellSpelledRow (more_of-CItem x rest) = WellSpelledItem x × WellSpelledRow rest

abbrev pub WellSpelledItems : List CItem → Type 0
WellSpelledItems items = Every WellSpelledItem items

abbrev pub WellSpelledPart : CPart → Type 0
WellSpelledPart p = WellSpelledItems p.items

-- the names of the parts are those of files, and stand in no text
abbrev pub WellSpelled : CUnit → Type 0
WellSpelled unit = Every WellSpelledPart unit.parts
