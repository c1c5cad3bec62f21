-- What breaks no rule: paths, operators, casts, arguments, an `if`, a `while`, bodies, items and units, by their parts, with
-- lists where the definitions have rows; and how many brackets and braces they open.
use Rattle.std.proofs.Common.{◌≡◌, refl, sym, ap, subst, ◌∙◌, ℕ, ◌+◌, List, [], ◌∷◌, ◌++◌, append-nil, append_assoc, length, Option, Bool, true}
use Rattle.std.specs.Prelude.{max, unwrap_or, Some, None}
use Rattle.std.specs.List.{flat_map}
use Rattle.plc_base.specs.declared.elem.Elem.{Elem}
use Rattle.c_tree.specs.declared.tree.CArg.TheVariants as arg
use Rattle.c_tree.specs.declared.tree.CArg.TheBlock.{hidden-the_row-CSel-0, hidden-the_row-CExpr-2}
use Rattle.c_tree.specs.declared.tree.CBin.{CBin}
use Rattle.c_tree.specs.declared.tree.CExpr.{CExpr}
use Rattle.c_tree.specs.declared.tree.CExpr.TheVariants as expr
use Rattle.c_tree.specs.declared.tree.CItem.{CItem}
use Rattle.c_tree.specs.declared.tree.CParam.TheVariants as param
use Rattle.c_tree.specs.declared.tree.CPart.{CPart}
use Rattle.c_tree.specs.declared.tree.CPath.{CPath}
use Rattle.c_tree.specs.declared.tree.CSel.{CSel}
use Rattle.c_tree.specs.declared.tree.CStmt.{CStmt, If, While}
use Rattle.c_tree.specs.declared.tree.CStmt as stmt
use Rattle.c_tree.specs.declared.tree.CStmt.TheBlock.{hidden-the_row-CStmt-0}
use Rattle.c_tree.specs.declared.tree.CUnit.{CUnit}
use Rattle.c_tree.specs.Spelling.{sel_pieces, expr_pieces, stmt_pieces, stmts_pieces, item_pieces, items_pieces}
use Rattle.c_tree.specs.WellSpelled.{Every}
use Rattle.c_meaning.specs.Items.{Structure, all_items, structures_of}
use Rattle.c_meaning.specs.Library.{library}
use Rattle.c_meaning.specs.Names.{labels_of, labels_in}
use Rattle.c_meaning.specs.Brackets.{greatest, open_expr, open_arg, open_sel, open_parts, open_path, open_stmt, open_stmts}
use Rattle.c_meaning.specs.Reach.{Scope, Reach, has_kind, sel_reach, parts_reach, sels_reach, first_reach, path_reach, is_plain, is_flagged, is_structure, any_kind}
use Rattle.c_meaning.specs.Rules.{wants, arg_fits, behind, first_faults, parts_faults, sel_faults, sels_faults, path_faults, expr_faults, arg_faults, stmt_faults, stmts_faults, in_block, in_loop, label_faults, body_faults, item_faults, items_faults, parts_of_unit_faults, faults}

-- no rule is broken, wherever it stands
abbrev pub NoFaults : (ℕ → List ℕ) → Type 0
NoFaults f = (at : ℕ) → f at ≡ []

pub none : (xs ys : List ℕ) → xs ≡ [] → ys ≡ [] → xs ++ ys ≡ []
none xs ys e f = λ i. e i ++ f i

pub granted : (b : Bool) (at : ℕ) → b ≡ true → wants b at ≡ []
granted b at e = ap (λ c. wants c at) e

-- ---- paths

parts_reached : (ss : List Structure) (r : Reach) (xs : List CSel) → parts_reach ss r (hidden-the_row-CSel-0 xs) ≡ sels_reach ss r xs
unfolding hidden-the_row-CSel-0 denote.Hole.Carrier.hidden
parts_reached ss r [] = refl
parts_reached ss r (x ∷ xs) = parts_reached ss (sel_reach ss r x) xs

parts_listed : (s : Scope) (r : Reach) (at : ℕ) (xs : List CSel) → parts_faults s r at (hidden-the_row-CSel-0 xs) ≡ sels_faults s r at xs
unfolding hidden-the_row-CSel-0 denote.Hole.Carrier.hidden
parts_listed s r at [] = refl
parts_listed s r at (x ∷ xs) = ap (λ ys. sel_faults s r at x ++ ys) (parts_listed s (sel_reach (structures_of s.above) r x) (at + length (sel_pieces x)) xs)

pub faults-Path : (s : Scope) (at : ℕ) (p : CPath) → expr_faults s at (expr.Path p) ≡ path_faults s is_plain at p
faults-Path s at p = λ i.
    (wants (has_kind is_plain (parts_reached (structures_of s.above) (first_reach s p.first p.arrow) p.parts i)) at ++ first_faults s at p.first p.arrow)
    ++ parts_listed s (first_reach s p.first p.arrow) (behind at p.first p.arrow) p.parts i

pub faults-GetVar : (s : Scope) (at : ℕ) (p : CPath) → expr_faults s at (expr.GetVar p) ≡ path_faults s is_flagged (at + 2) p
faults-GetVar s at p = λ i.
    (wants (has_kind is_flagged (parts_reached (structures_of s.above) (first_reach s p.first p.arrow) p.parts i)) (at + 2) ++ first_faults s (at + 2) p.first p.arrow)
    ++ parts_listed s (first_reach s p.first p.arrow) (behind (at + 2) p.first p.arrow) p.parts i

pub faults-Address : (s : Scope) (at : ℕ) (p : CPath) → arg_faults s at (arg.Address p) ≡ path_faults s any_kind (at + 1) p
faults-Address s at p = λ i.
    (wants (has_kind any_kind (parts_reached (structures_of s.above) (first_reach s p.first p.arrow) p.parts i)) (at + 1) ++ first_faults s (at + 1) p.first p.arrow)
    ++ parts_listed s (first_reach s p.first p.arrow) (behind (at + 1) p.first p.arrow) p.parts i

-- the address of what a path leads to, for a pointer
pub fits-Address : (s : Scope) (to n : List ℕ) (p : CPath) → arg_fits s (param.Pointer to n) (arg.Address p) ≡ has_kind (is_structure to) (path_reach s p)
fits-Address s to n p = ap (has_kind (is_structure to)) (parts_reached (structures_of s.above) (first_reach s p.first p.arrow) p.parts)

-- ---- expressions

module _ (s : Scope) where
  pub faults-Bin : (op : CBin) (a b : CExpr) → NoFaults (λ at. expr_faults s at a) → NoFaults (λ at. expr_faults s at b) → NoFaults (λ at. expr_faults s at (expr.Bin op a b))
  unfolding expr_pieces hidden-the_row-CExpr-2 denote.Hole.Carrier.hidden
  faults-Bin op a b h k at = none _ _ (h (at + 1)) (k (at + 2 + length (expr_pieces a)))

  pub faults-Cast : (to : Elem) (e : CExpr) → NoFaults (λ at. expr_faults s at e) → NoFaults (λ at. expr_faults s at (expr.Cast to e))
  unfolding hidden-the_row-CExpr-2 denote.Hole.Carrier.hidden
  faults-Cast to e h at = h (at + 4)

-- ---- statements

abbrev pub StmtsGood : Scope → List CStmt → Type 0
StmtsGood s cs = Every (λ c. NoFaults (λ at. stmt_faults s at c)) cs

row_good : (s : Scope) (cs : List CStmt) → StmtsGood s cs → NoFaults (λ at. stmts_faults s at (hidden-the_row-CStmt-0 cs))
unfolding hidden-the_row-CStmt-0 denote.Hole.Carrier.hidden
row_good s [] h at = refl
row_good s (c ∷ cs) h at = none _ _ (h.0 at) (row_good s cs h.1 (at + length (stmt_pieces c)))

module _ (s : Scope) where
  pub faults-If : (test : CExpr) (body : List CStmt) (other : Option (List CStmt)) → NoFaults (λ at. expr_faults s at test) → StmtsGood (in_block s) body
      → StmtsGood (in_block s) (unwrap_or other []) → NoFaults (λ at. stmt_faults s at (If test body other))
  faults-If test body None t h k at = none _ _ (none _ _ (t (at + 2)) (row_good (in_block s) body h (at + length (expr_pieces test) + 4))) refl
  faults-If test body (Some cs) t h k at =
      none _ _ (none _ _ (t (at + 2)) (row_good (in_block s) body h (at + length (expr_pieces test) + 4)))
      (row_good (in_block s) cs k (at + length (expr_pieces test) + 4 + length (stmts_pieces (hidden-the_row-CStmt-0 body)) + 3))

  pub faults-While : (test : CExpr) (body : List CStmt) → NoFaults (λ at. expr_faults s at test) → StmtsGood (in_loop s) body → NoFaults (λ at. stmt_faults s at (While test body))
  faults-While test body t h at = none _ _ (t (at + 2)) (row_good (in_loop s) body h (at + length (expr_pieces test) + 4))

-- ---- labels

labels_listed : (cs : List CStmt) → labels_in (hidden-the_row-CStmt-0 cs) ≡ flat_map labels_of cs
unfolding hidden-the_row-CStmt-0 denote.Hole.Carrier.hidden
labels_listed [] = refl
labels_listed (c ∷ cs) = ap (λ ls. labels_of c ++ ls) (labels_listed cs)

abbrev pub NoLabel : CStmt → Type 0
NoLabel c = labels_of c ≡ []

pub no_labels : (cs : List CStmt) → Every NoLabel cs → flat_map labels_of cs ≡ []
no_labels [] h = refl
no_labels (c ∷ cs) h = λ i. h.0 i ++ no_labels cs h.1 i

pub labels-If : (test : CExpr) (body : List CStmt) → Every NoLabel body → NoLabel (If test body None)
labels-If test body h = ap (λ ls. ls ++ []) (labels_listed body ∙ no_labels body h)

pub labels-While : (test : CExpr) (body : List CStmt) → Every NoLabel body → NoLabel (While test body)
labels-While test body h = labels_listed body ∙ no_labels body h

no_label_faults : (before : List CStmt) (at : ℕ) (c : CStmt) → NoLabel c → label_faults before at c ≡ []
no_label_faults before at (stmt.Label name) h = cc
no_label_faults before at c h = refl

-- a body without labels whose statements break no rule
pub body_good : (s : Scope) (before cs : List CStmt) → Every NoLabel cs → StmtsGood s cs → NoFaults (λ at. body_faults s before at cs)
body_good s before [] l h at = refl
body_good s before (c ∷ cs) l h at = none _ _ (none _ _ (no_label_faults before at c l.0) (h.0 at)) (body_good s (before ++ (c ∷ [])) cs l.1 h.1 (at + length (stmt_pieces c)))

-- ---- items and units

abbrev pub ItemsGood : (all above : List CItem) → List CItem → Type 0
ItemsGood all above [] = Unit {0}
ItemsGood all above (x ∷ xs) = NoFaults (λ at. item_faults all above at x) × ItemsGood all (above ++ (x ∷ [])) xs

items_split : (all above xs ys : List CItem) → ItemsGood all above (xs ++ ys) → NoFaults (λ at. items_faults all above at xs) × ItemsGood all (above ++ xs) ys
items_split all above [] ys h = ((λ at. refl), subst (λ a. ItemsGood all a ys) (sym (append-nil above)) h)
items_split all above (x ∷ xs) ys h =
    let r = items_split all (above ++ (x ∷ [])) xs ys h.1 in
    ((λ at. none _ _ (h.0 at) (r.0 (at + length (item_pieces x)))), subst (λ a. ItemsGood all a ys) (append_assoc above (x ∷ []) xs) r.1)

parts_good : (all above : List CItem) (ps : List CPart) → ItemsGood all above (flat_map (λ (p : CPart). p.items) ps) → NoFaults (λ at. parts_of_unit_faults all above at ps)
parts_good all above [] h at = refl
parts_good all above (p ∷ ps) h at = let r = items_split all above p.items (flat_map (λ (p : CPart). p.items) ps) h in none _ _ (r.0 at) (parts_good all (above ++ p.items) ps r.1 (at + length (items_pieces p.items) + 1))

-- the rules of a unit are kept where its items, each below those above it, break none
pub unit_good : (c : CUnit) → ItemsGood (all_items c) library (flat_map (λ (p : CPart). p.items) c.parts) → faults c ≡ []
unit_good c h = parts_good (all_items c) library c.parts h 1

-- ---- brackets and braces

parts_opened : (xs : List CSel) → open_parts (hidden-the_row-CSel-0 xs) ≡ greatest open_sel xs
unfolding hidden-the_row-CSel-0 denote.Hole.Carrier.hidden
parts_opened [] = refl
parts_opened (x ∷ xs) = ap (max (open_sel x)) (parts_opened xs)

pub open_expr-Path : (p : CPath) → open_expr (expr.Path p) ≡ open_path p
open_expr-Path p = parts_opened p.parts

pub open_expr-GetVar : (p : CPath) → open_expr (expr.GetVar p) ≡ 1 + open_path p
open_expr-GetVar p = ap (λ n. 1 + n) (parts_opened p.parts)

pub open_arg-Address : (p : CPath) → open_arg (arg.Address p) ≡ open_path p
open_arg-Address p = parts_opened p.parts

pub open_expr-Bin : (op : CBin) (a b : CExpr) → open_expr (expr.Bin op a b) ≡ 1 + max (open_expr a) (open_expr b)
unfolding hidden-the_row-CExpr-2 denote.Hole.Carrier.hidden
open_expr-Bin op a b = refl

pub open_expr-Cast : (to : Elem) (e : CExpr) → open_expr (expr.Cast to e) ≡ 1 + max 1 (open_expr e)
unfolding hidden-the_row-CExpr-2 denote.Hole.Carrier.hidden
open_expr-Cast to e = refl

open_is_greatest : (cs : List CStmt) → open_stmts (hidden-the_row-CStmt-0 cs) ≡ greatest open_stmt cs
unfolding hidden-the_row-CStmt-0 denote.Hole.Carrier.hidden
open_is_greatest [] = refl
open_is_greatest (c ∷ cs) = ap (max (open_stmt c)) (open_is_greatest cs)

-- the braces of an `else`
abbrev pub open_other : Option (List CStmt) → ℕ
open_other None = 0
open_other (Some cs) = 1 + greatest open_stmt cs

pub open_stmt-If : (test : CExpr) (body : List CStmt) (other : Option (List CStmt))
    → open_stmt (If test body other) ≡ max (1 + open_expr test) (max (1 + greatest open_stmt body) (open_other other))
open_stmt-If test body None = λ i. max (1 + open_expr test) (max (1 + open_is_greatest body i) 0)
open_stmt-If test body (Some cs) = λ i. max (1 + open_expr test) (max (1 + open_is_greatest body i) (1 + open_is_greatest cs i))

pub open_stmt-While : (test : CExpr) (body : List CStmt) → open_stmt (While test body) ≡ max (1 + open_expr test) (1 + greatest open_stmt body)
open_stmt-While test body = λ i. max (1 + open_expr test) (1 + open_is_greatest body i)
