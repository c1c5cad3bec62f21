-- The pieces of each tree as equations, with lists where the definitions have rows.
use Rattle.std.proofs.Common.{◌≡◌, refl, ap, ◌∙◌, ℕ, List, [], ◌∷◌, ◌++◌, Option}
use Rattle.std.specs.Prelude.{flat_map, codes, Some, None}
use Rattle.plc_base.specs.declared.elem.Elem.{Elem}
use Rattle.c_tree.specs.declared.tree.CArg.{CArg}
use Rattle.c_tree.specs.declared.tree.CArg.TheVariants as args
use Rattle.c_tree.specs.declared.tree.CArg.TheBlock.{hidden-the_row-CSel-0, hidden-the_row-CArg-1, hidden-the_row-CExpr-2}
use Rattle.c_tree.specs.declared.tree.CBin.{CBin}
use Rattle.c_tree.specs.declared.tree.CExpr.{CExpr}
use Rattle.c_tree.specs.declared.tree.CExpr.TheVariants as exprs
use Rattle.c_tree.specs.declared.tree.CItem.{CItem, Struct, Object, Located, Func, DebugRow}
use Rattle.c_tree.specs.declared.tree.CItem.TheBlock.{hidden-the_row-CItem-0}
use Rattle.c_tree.specs.declared.tree.CLocal.{CLocal}
use Rattle.c_tree.specs.declared.tree.CNum.{CNum}
use Rattle.c_tree.specs.declared.tree.CParam.{CParam}
use Rattle.c_tree.specs.declared.tree.CParam.TheVariants as params
use Rattle.c_tree.specs.declared.tree.CPath.{CPath}
use Rattle.c_tree.specs.declared.tree.CRow.{CRow}
use Rattle.c_tree.specs.declared.tree.CSel.{CSel}
use Rattle.c_tree.specs.declared.tree.CSel.TheVariants as sels
use Rattle.c_tree.specs.declared.tree.CStmt.{CStmt, Set, InitVar, SetVar, InitLocated, SetLocated, Copy, Publish, Call, If, While, Break, Goto, Label, Return}
use Rattle.c_tree.specs.declared.tree.CStmt.TheBlock.{hidden-the_row-CStmt-0}
use Rattle.c_tree.specs.declared.tree.CType.{CType}
use Rattle.c_tree.specs.declared.tree.CType.TheVariants as types
use Rattle.c_tree.specs.declared.tree.CUn.{CUn}
use Rattle.c_tree.specs.declared.sign.Sign.TheVariants.{OpenBrace, CloseBrace, OpenParen, CloseParen, OpenBracket, CloseBracket, Semicolon, Colon, Comma, Dot, Assign, Star, Ampersand}
use Rattle.c_tree.specs.Layout.{Piece, Spaced, Ending}
use Rattle.c_tree.specs.Spelling.{word, number, int, mark, elem_name, flagged_name, celled_name, row_word, behind_commas, between_commas, start_pieces, sel_pieces, parts_pieces, path_pieces, bin_sign, un_sign, cast_pieces, form_pieces, expr_pieces, arg_pieces, args_pieces, later_args_pieces, call_end, call_pieces, test_pieces, in_braces, value_pieces, setting_pieces, stmt_pieces, stmts_pieces, block_pieces, other_pieces, ctype_pieces, dim_pieces, param_pieces, local_pieces, cell_pieces, int_pieces, head_pieces, body_pieces, item_pieces, row_pieces, items_pieces}

-- ---- paths and expressions

parts_row : (ps : List CSel) → parts_pieces (hidden-the_row-CSel-0 ps) ≡ flat_map sel_pieces ps
unfolding parts_pieces hidden-the_row-CSel-0 denote.Hole.Carrier.hidden
parts_row [] = refl
parts_row (x ∷ rest) = ap (λ (ps : List Piece). sel_pieces x ++ ps) (parts_row rest)

later_args_row : (xs : List CArg) → later_args_pieces (hidden-the_row-CArg-1 xs) ≡ behind_commas arg_pieces xs
unfolding later_args_pieces hidden-the_row-CArg-1 denote.Hole.Carrier.hidden
later_args_row [] = refl
later_args_row (x ∷ rest) = ap (λ (ps : List Piece). mark Comma ∷ arg_pieces x ++ ps) (later_args_row rest)

args_row : (xs : List CArg) → args_pieces (hidden-the_row-CArg-1 xs) ≡ between_commas arg_pieces xs
unfolding args_pieces hidden-the_row-CArg-1 denote.Hole.Carrier.hidden
args_row [] = refl
args_row (x ∷ rest) = ap (λ (ps : List Piece). arg_pieces x ++ ps) (later_args_row rest)

pub path_pieces-is : (p : CPath) → path_pieces p ≡ start_pieces p.first p.arrow ++ flat_map sel_pieces p.parts
unfolding path_pieces
path_pieces-is p = refl

pub sel_pieces-Field : (name : List ℕ) → sel_pieces (sels.Field name) ≡ mark Dot ∷ word name ∷ []
unfolding sel_pieces
sel_pieces-Field name = refl

pub sel_pieces-Index : (e : CExpr) → sel_pieces (sels.Index e) ≡ mark OpenBracket ∷ expr_pieces e ++ mark CloseBracket ∷ []
unfolding sel_pieces
sel_pieces-Index e = refl

pub expr_pieces-Number : (value : ℕ) (kind : CNum) → expr_pieces (exprs.Number value kind) ≡ number value kind ∷ []
unfolding expr_pieces
expr_pieces-Number value kind = refl

pub expr_pieces-Path : (p : CPath) → expr_pieces (exprs.Path p) ≡ path_pieces p
unfolding expr_pieces path_pieces
expr_pieces-Path p = ap (λ (ps : List Piece). start_pieces p.first p.arrow ++ ps) (parts_row p.parts)

pub expr_pieces-Moment : expr_pieces exprs.Moment ≡ word (codes "__CURRENT_TIME") ∷ []
unfolding expr_pieces
expr_pieces-Moment = refl

pub expr_pieces-GetVar : (p : CPath) → expr_pieces (exprs.GetVar p) ≡ form_pieces (codes "__GET_VAR") ++ path_pieces p ++ mark CloseParen ∷ []
unfolding expr_pieces path_pieces
expr_pieces-GetVar p = ap (λ (ps : List Piece). form_pieces (codes "__GET_VAR") ++ (start_pieces p.first p.arrow ++ ps) ++ mark CloseParen ∷ []) (parts_row p.parts)

pub expr_pieces-GetLocated : (p : CPath) → expr_pieces (exprs.GetLocated p) ≡ form_pieces (codes "__GET_LOCATED") ++ path_pieces p ++ mark CloseParen ∷ []
unfolding expr_pieces path_pieces
expr_pieces-GetLocated p = ap (λ (ps : List Piece). form_pieces (codes "__GET_LOCATED") ++ (start_pieces p.first p.arrow ++ ps) ++ mark CloseParen ∷ []) (parts_row p.parts)

pub expr_pieces-Call : (name : List ℕ) (xs : List CArg) → expr_pieces (exprs.Call name xs) ≡ call_pieces name xs
unfolding expr_pieces
expr_pieces-Call name xs = ap (λ (ps : List Piece). form_pieces name ++ ps ++ mark CloseParen ∷ []) (args_row xs)

pub expr_pieces-Bin : (op : CBin) (left right : CExpr) →
    expr_pieces (exprs.Bin op left right) ≡ mark OpenParen ∷ expr_pieces left ++ Spaced (bin_sign op) ∷ expr_pieces right ++ mark CloseParen ∷ []
unfolding expr_pieces hidden-the_row-CExpr-2 denote.Hole.Carrier.hidden
expr_pieces-Bin op left right = refl

pub expr_pieces-Un : (op : CUn) (inner : CExpr) →
    expr_pieces (exprs.Un op inner) ≡ mark OpenParen ∷ mark (un_sign op) ∷ expr_pieces inner ++ mark CloseParen ∷ []
unfolding expr_pieces hidden-the_row-CExpr-2 denote.Hole.Carrier.hidden
expr_pieces-Un op inner = refl

pub expr_pieces-Cast : (to : Elem) (inner : CExpr) →
    expr_pieces (exprs.Cast to inner) ≡ cast_pieces to ++ expr_pieces inner ++ mark CloseParen ∷ []
unfolding expr_pieces hidden-the_row-CExpr-2 denote.Hole.Carrier.hidden
expr_pieces-Cast to inner = refl

pub arg_pieces-Value : (e : CExpr) → arg_pieces (args.Value e) ≡ expr_pieces e
unfolding arg_pieces
arg_pieces-Value e = refl

pub arg_pieces-Address : (p : CPath) → arg_pieces (args.Address p) ≡ mark Ampersand ∷ path_pieces p
unfolding arg_pieces path_pieces
arg_pieces-Address p = ap (λ (ps : List Piece). mark Ampersand ∷ start_pieces p.first p.arrow ++ ps) (parts_row p.parts)

pub arg_pieces-Pass : (name : List ℕ) → arg_pieces (args.Pass name) ≡ word name ∷ []
unfolding arg_pieces
arg_pieces-Pass name = refl

-- ---- statements

pub stmt_pieces-Set : (to : CPath) (from : CExpr) → stmt_pieces (Set to from) ≡ path_pieces to ++ Spaced Assign ∷ expr_pieces from ++ Ending Semicolon ∷ []
unfolding stmt_pieces
stmt_pieces-Set to from = refl

pub stmt_pieces-InitVar : (to : CPath) (from : CExpr) → stmt_pieces (InitVar to from) ≡ setting_pieces (codes "__INIT_VAR") to from
unfolding stmt_pieces
stmt_pieces-InitVar to from = refl

pub stmt_pieces-SetVar : (to : CPath) (from : CExpr) → stmt_pieces (SetVar to from) ≡ setting_pieces (codes "__SET_VAR") to from
unfolding stmt_pieces
stmt_pieces-SetVar to from = refl

pub stmt_pieces-InitLocated : (to : CPath) (cell : List ℕ) →
    stmt_pieces (InitLocated to cell) ≡ form_pieces (codes "__INIT_LOCATED") ++ path_pieces to ++ mark Comma ∷ word cell ∷ call_end
unfolding stmt_pieces
stmt_pieces-InitLocated to cell = refl

pub stmt_pieces-SetLocated : (to : CPath) (from : CExpr) → stmt_pieces (SetLocated to from) ≡ setting_pieces (codes "__SET_LOCATED") to from
unfolding stmt_pieces
stmt_pieces-SetLocated to from = refl

pub stmt_pieces-Copy : (to from : CPath) → stmt_pieces (Copy to from) ≡ form_pieces (codes "__COPY") ++ path_pieces to ++ mark Comma ∷ path_pieces from ++ call_end
unfolding stmt_pieces
stmt_pieces-Copy to from = refl

pub stmt_pieces-Publish : (p : CPath) → stmt_pieces (Publish p) ≡ form_pieces (codes "__PUBLISH") ++ path_pieces p ++ call_end
unfolding stmt_pieces
stmt_pieces-Publish p = refl

pub stmt_pieces-Call : (name : List ℕ) (xs : List CArg) → stmt_pieces (Call name xs) ≡ call_pieces name xs ++ Ending Semicolon ∷ []
unfolding stmt_pieces
stmt_pieces-Call name xs = refl

stmts_are_list : (stmts : List CStmt) → stmts_pieces (hidden-the_row-CStmt-0 stmts) ≡ flat_map stmt_pieces stmts
unfolding stmts_pieces hidden-the_row-CStmt-0 denote.Hole.Carrier.hidden
stmts_are_list [] = refl
stmts_are_list (x ∷ rest) = ap (λ (ps : List Piece). stmt_pieces x ++ ps) (stmts_are_list rest)

pub stmt_pieces-If : (test : CExpr) (body : List CStmt) (other : Option (List CStmt)) →
    stmt_pieces (If test body other) ≡ test_pieces (codes "if") test ++ block_pieces body ++ other_pieces other
unfolding stmt_pieces
stmt_pieces-If test body None = ap (λ (ps : List Piece). test_pieces (codes "if") test ++ in_braces ps ++ []) (stmts_are_list body)
stmt_pieces-If test body (Some stmts) =
    ap (λ (ps : List Piece). test_pieces (codes "if") test ++ in_braces ps ++ word (codes "else") ∷ in_braces (stmts_pieces (hidden-the_row-CStmt-0 stmts))) (stmts_are_list body)
    ∙ ap (λ (ps : List Piece). test_pieces (codes "if") test ++ block_pieces body ++ word (codes "else") ∷ in_braces ps) (stmts_are_list stmts)

pub stmt_pieces-While : (test : CExpr) (body : List CStmt) → stmt_pieces (While test body) ≡ test_pieces (codes "while") test ++ block_pieces body
unfolding stmt_pieces
stmt_pieces-While test body = ap (λ (ps : List Piece). test_pieces (codes "while") test ++ in_braces ps) (stmts_are_list body)

pub stmt_pieces-Break : stmt_pieces Break ≡ word (codes "break") ∷ Ending Semicolon ∷ []
unfolding stmt_pieces
stmt_pieces-Break = refl

pub stmt_pieces-Goto : (name : List ℕ) → stmt_pieces (Goto name) ≡ word (codes "goto") ∷ word name ∷ Ending Semicolon ∷ []
unfolding stmt_pieces
stmt_pieces-Goto name = refl

pub stmt_pieces-Label : (name : List ℕ) → stmt_pieces (Label name) ≡ word name ∷ Ending Colon ∷ []
unfolding stmt_pieces
stmt_pieces-Label name = refl

pub stmt_pieces-Return : (value : Option CExpr) → stmt_pieces (Return value) ≡ word (codes "return") ∷ value_pieces value ++ Ending Semicolon ∷ []
unfolding stmt_pieces
stmt_pieces-Return value = refl

-- ---- items

pub ctype_pieces-Plain : (e : Elem) → ctype_pieces (types.Plain e) ≡ word (elem_name e) ∷ []
unfolding ctype_pieces
ctype_pieces-Plain e = refl

pub ctype_pieces-Flagged : (e : Elem) → ctype_pieces (types.Flagged e) ≡ word (flagged_name e) ∷ []
unfolding ctype_pieces
ctype_pieces-Flagged e = refl

pub ctype_pieces-Celled : (e : Elem) → ctype_pieces (types.Celled e) ≡ word (celled_name e) ∷ []
unfolding ctype_pieces
ctype_pieces-Celled e = refl

pub ctype_pieces-Struct : (name : List ℕ) → ctype_pieces (types.Struct name) ≡ word name ∷ []
unfolding ctype_pieces
ctype_pieces-Struct name = refl

pub param_pieces-Value : (e : Elem) (name : List ℕ) → param_pieces (params.Value e name) ≡ word (elem_name e) ∷ word name ∷ []
unfolding param_pieces
param_pieces-Value e name = refl

pub param_pieces-Pointer : (to name : List ℕ) → param_pieces (params.Pointer to name) ≡ word to ∷ mark Star ∷ word name ∷ []
unfolding param_pieces
param_pieces-Pointer to name = refl

pub local_pieces-is : (l : CLocal) → local_pieces l ≡ word (elem_name l.elem) ∷ word l.name ∷ Spaced Assign ∷ expr_pieces l.init ++ Ending Semicolon ∷ []
unfolding local_pieces
local_pieces-is l = refl

row_is_list : (items : List CItem) → row_pieces (hidden-the_row-CItem-0 items) ≡ items_pieces items
unfolding row_pieces hidden-the_row-CItem-0 denote.Hole.Carrier.hidden
row_is_list [] = refl
row_is_list (x ∷ rest) = ap (λ (ps : List Piece). item_pieces x ++ ps) (row_is_list rest)

pub item_pieces-Struct : (members : List CItem) (name : List ℕ) →
    item_pieces (Struct members name) ≡ word (codes "typedef") ∷ word (codes "struct") ∷ Ending OpenBrace ∷ items_pieces members ++ Ending CloseBrace ∷ word name ∷ Ending Semicolon ∷ []
unfolding item_pieces
item_pieces-Struct members name =
    ap (λ (ps : List Piece). word (codes "typedef") ∷ word (codes "struct") ∷ Ending OpenBrace ∷ ps ++ Ending CloseBrace ∷ word name ∷ Ending Semicolon ∷ []) (row_is_list members)

pub item_pieces-Object : (ty : CType) (name : List ℕ) (dims : List ℕ) →
    item_pieces (Object ty name dims) ≡ ctype_pieces ty ++ word name ∷ flat_map dim_pieces dims ++ Ending Semicolon ∷ []
unfolding item_pieces
item_pieces-Object ty name dims = refl

pub item_pieces-Located : (e : Elem) (name : List ℕ) (dir size : ℕ) (numbers : List ℕ) →
    item_pieces (Located e name dir size numbers) ≡ cell_pieces e name dir size ++ behind_commas int_pieces numbers ++ Ending CloseParen ∷ []
unfolding item_pieces
item_pieces-Located e name dir size numbers = refl

pub item_pieces-Func : (result : Option Elem) (name : List ℕ) (ps : List CParam) (locals : List CLocal) (body : List CStmt) →
    item_pieces (Func result name ps locals body) ≡ head_pieces result name ps ++ body_pieces locals body
unfolding item_pieces
item_pieces-Func result name ps locals body = refl

pub item_pieces-DebugRow : (n : ℕ) (e : Elem) (p : CPath) (kind : CRow) →
    item_pieces (DebugRow n e p kind)
    ≡ form_pieces (codes "__DEBUG_ROW") ++ int n ∷ mark Comma ∷ word (elem_name e) ∷ mark Comma ∷ path_pieces p ++ mark Comma ∷ word (row_word kind) ∷ call_end
unfolding item_pieces
item_pieces-DebugRow n e p kind = refl
