-- When a tree is well spelled, by its sides as expressions, and its rows as lists.
use Rattle.std.proofs.Common.{ℕ, List, [], ◌∷◌, Option}
use Rattle.std.specs.Prelude.{unwrap_or, Some, None}
use Rattle.plc_base.specs.declared.elem.Elem.{Elem}
use Rattle.c_tree.specs.declared.tree.CArg.{CArg}
use Rattle.c_tree.specs.declared.tree.CArg.TheVariants as args
use Rattle.c_tree.specs.declared.tree.CArg.TheBlock.{hidden-the_row-CSel-0, hidden-the_row-CArg-1, hidden-the_row-CExpr-2}
use Rattle.c_tree.specs.declared.tree.CBin.{CBin}
use Rattle.c_tree.specs.declared.tree.CExpr.{CExpr}
use Rattle.c_tree.specs.declared.tree.CExpr.TheVariants as exprs
use Rattle.c_tree.specs.declared.tree.CItem.{CItem, Struct}
use Rattle.c_tree.specs.declared.tree.CItem.TheBlock.{hidden-the_row-CItem-0}
use Rattle.c_tree.specs.declared.tree.CPath.{CPath}
use Rattle.c_tree.specs.declared.tree.CSel.{CSel}
use Rattle.c_tree.specs.declared.tree.CStmt.{CStmt, If, While}
use Rattle.c_tree.specs.declared.tree.CStmt.TheBlock.{hidden-the_row-CStmt-0}
use Rattle.c_tree.specs.CTokens.{IsName}
use Rattle.c_tree.specs.WellSpelled.{Every, WellSpelledSel, WellSpelledParts, WellSpelledPath, WellSpelledExpr, WellSpelledArg, WellSpelledArgs, WellSpelledStmt, WellSpelledStmts, WellSpelledItem, WellSpelledItems, WellSpelledRow}

-- ---- paths and arguments

parts_from_list : (ps : List CSel) → Every WellSpelledSel ps → WellSpelledParts (hidden-the_row-CSel-0 ps)
unfolding hidden-the_row-CSel-0 denote.Hole.Carrier.hidden
parts_from_list [] h = tt
parts_from_list (x ∷ rest) h = (h.0, parts_from_list rest h.1)

args_from_list : (xs : List CArg) → Every WellSpelledArg xs → WellSpelledArgs (hidden-the_row-CArg-1 xs)
unfolding hidden-the_row-CArg-1 denote.Hole.Carrier.hidden
args_from_list [] h = tt
args_from_list (x ∷ rest) h = (h.0, args_from_list rest h.1)

pub WellSpelled-Path : (p : CPath) → WellSpelledPath p → WellSpelledExpr (exprs.Path p)
WellSpelled-Path p h = (h.first, h.arrow, parts_from_list p.parts h.parts)

pub WellSpelled-GetVar : (p : CPath) → WellSpelledPath p → WellSpelledExpr (exprs.GetVar p)
WellSpelled-GetVar p h = (h.first, h.arrow, parts_from_list p.parts h.parts)

pub WellSpelled-GetLocated : (p : CPath) → WellSpelledPath p → WellSpelledExpr (exprs.GetLocated p)
WellSpelled-GetLocated p h = (h.first, h.arrow, parts_from_list p.parts h.parts)

pub WellSpelled-Address : (p : CPath) → WellSpelledPath p → WellSpelledArg (args.Address p)
WellSpelled-Address p h = (h.first, h.arrow, parts_from_list p.parts h.parts)

pub WellSpelled-Call : (name : List ℕ) (xs : List CArg) → IsName name → Every WellSpelledArg xs → WellSpelledExpr (exprs.Call name xs)
WellSpelled-Call name xs n h = (n, args_from_list xs h)

-- ---- operators and casts

pub WellSpelled-Bin : (op : CBin) (a b : CExpr) → WellSpelledExpr a → WellSpelledExpr b → WellSpelledExpr (exprs.Bin op a b)
unfolding hidden-the_row-CExpr-2 denote.Hole.Carrier.hidden
WellSpelled-Bin op a b h k = (h, k)

pub WellSpelled-Cast : (to : Elem) (e : CExpr) → WellSpelledExpr e → WellSpelledExpr (exprs.Cast to e)
unfolding hidden-the_row-CExpr-2 denote.Hole.Carrier.hidden
WellSpelled-Cast to e h = h

-- ---- statements

spelled_from_list : (cs : List CStmt) → Every WellSpelledStmt cs → WellSpelledStmts (hidden-the_row-CStmt-0 cs)
unfolding hidden-the_row-CStmt-0 denote.Hole.Carrier.hidden
spelled_from_list [] h = tt
spelled_from_list (c ∷ cs) h = (h.0, spelled_from_list cs h.1)

pub WellSpelled-If : (test : CExpr) (body : List CStmt) (other : Option (List CStmt)) → WellSpelledExpr test → Every WellSpelledStmt body → Every WellSpelledStmt (unwrap_or other [])
    → WellSpelledStmt (If test body other)
WellSpelled-If test body None t h k = (t, spelled_from_list body h, tt)
WellSpelled-If test body (Some cs) t h k = (t, spelled_from_list body h, spelled_from_list cs k)

pub WellSpelled-While : (test : CExpr) (body : List CStmt) → WellSpelledExpr test → Every WellSpelledStmt body → WellSpelledStmt (While test body)
WellSpelled-While test body t h = (t, spelled_from_list body h)

-- ---- items

row_from_list : (items : List CItem) → WellSpelledItems items → WellSpelledRow (hidden-the_row-CItem-0 items)
unfolding hidden-the_row-CItem-0 denote.Hole.Carrier.hidden
row_from_list [] h = tt
row_from_list (x ∷ rest) h = (h.0, row_from_list rest h.1)

-- a structure is well spelled where its members and its name are
pub WellSpelled-Struct : (members : List CItem) (name : List ℕ) → WellSpelledItems members → IsName name → WellSpelledItem (Struct members name)
WellSpelled-Struct members name ms n = (row_from_list members ms, n)
