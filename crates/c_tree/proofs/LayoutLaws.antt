-- What is laid out is cut into the tokens that were laid out.
use Rattle.std.proofs.Common.{◌≡◌, refl, sym, ap, ◌∙◌, subst, ℕ, Bool, true, false, not, ◌<◌, List, [], ◌∷◌, ◌++◌, map, append_assoc, arith, length}
use Rattle.std.specs.Prelude.{MatchBool, IsTrue, decimal, flat_map, codes, Option, Some, None}
use Rattle.std.proofs.lemmas.Bool.Decides.{nat_tests}
use Rattle.std.proofs.lemmas.Fmt.{decimal_nonempty}
use Rattle.plc_base.specs.Addresses.{is_direction, is_size}
use Rattle.plc_base.specs.declared.elem.Elem.{Elem}
use Rattle.plc_base.specs.declared.elem.Elem.TheVariants.{Sint}
use Rattle.c_tree.specs.declared.tree.CArg.{CArg}
use Rattle.c_tree.specs.declared.tree.CArg as args
use Rattle.c_tree.specs.declared.tree.CExpr.{CExpr, Row_of-CExpr, end_of-CExpr, more_of-CExpr, Row_of-CSel, end_of-CSel, more_of-CSel, Row_of-CArg, end_of-CArg, more_of-CArg}
use Rattle.c_tree.specs.declared.tree.CExpr as exprs
use Rattle.c_tree.specs.declared.tree.CItem.{CItem, Struct', Object, Located, Func, DebugRow, Row_of-CItem, end_of-CItem, more_of-CItem}
use Rattle.c_tree.specs.declared.tree.CLocal.{CLocal}
use Rattle.c_tree.specs.declared.tree.CParam.{CParam}
use Rattle.c_tree.specs.declared.tree.CParam.TheVariants.{Value as ValueParam, Pointer}
use Rattle.c_tree.specs.declared.tree.CPart.{CPart}
use Rattle.c_tree.specs.declared.tree.CPath.{CPath}
use Rattle.c_tree.specs.declared.tree.CRow.{CRow}
use Rattle.c_tree.specs.declared.tree.CRow.TheVariants.{Var, Loc, Step}
use Rattle.c_tree.specs.declared.tree.CSel.{CSel}
use Rattle.c_tree.specs.declared.tree.CSel as sels
use Rattle.c_tree.specs.declared.tree.CStmt.{CStmt, Set, InitVar, SetVar, InitLocated, SetLocated, Copy, Publish, Call, If', While', Break, Goto, Label, Return, Row_of-CStmt, end_of-CStmt, more_of-CStmt, Held-CStmt-If-2, None', Some'}
use Rattle.c_tree.specs.declared.tree.CType.{CType}
use Rattle.c_tree.specs.declared.tree.CUn.{CUn}
use Rattle.c_tree.specs.declared.tree.CUn.TheVariants as un
use Rattle.c_tree.specs.declared.tree.CType.TheVariants.{Plain, Flagged, Celled, Struct as StructType}
use Rattle.c_tree.specs.declared.tree.CUnit.{CUnit}
use Rattle.c_tree.specs.declared.sign.Sign.{Sign}
use Rattle.c_tree.specs.declared.sign.Sign.TheVariants.{Arrow, Assign, Comma}
use Rattle.c_tree.specs.CTokens.{CTok, Include, Word, Number, Mark, Unfit, Stray, sign_text, suffix, is_word_byte, is_digit, is_letter, are_word_bytes, cut, cut_first, IsName}
use Rattle.c_tree.specs.Layout.{Piece, Close, Spaced, Ending, token, gap, laid_after, laid, starts_anew, IsWellSet}
use Rattle.c_tree.specs.Spelling.{elem_name, flagged_name, celled_name, row_word, word, mark, behind_commas, between_commas, arrow_pieces, start_pieces, bin_sign, un_sign, expr_pieces, side_pieces, sel_pieces, parts_pieces, arg_pieces, args_pieces, later_args_pieces, path_pieces, call_pieces, test_pieces, in_braces, value_pieces, setting_pieces, stmt_pieces, stmts_pieces, else_pieces, ctype_pieces, dim_pieces, result_piece, param_pieces, params_pieces, local_pieces, int_pieces, head_pieces, body_pieces, item_pieces, row_pieces, items_pieces}
use Rattle.c_tree.specs.Spelled.{SpellsPart, SpellsParts, SpellsUnit}
use Rattle.c_tree.specs.Printing.{printed_part, part_text, part_texts, printed_unit}
use Rattle.c_tree.specs.WellSpelled.{Every, IsInt, WellSpelledArrow, WellSpelledExpr, WellSpelledSide, WellSpelledSel, WellSpelledParts, WellSpelledArg, WellSpelledArgs, WellSpelledPath, WellSpelledValue, WellSpelledStmt, WellSpelledStmts, WellSpelledElse, WellSpelledType, WellSpelledParam, WellSpelledLocal, WellSpelledItem, WellSpelledRow, WellSpelledItems, WellSpelledPart, WellSpelled}
use Rattle.c_tree.proofs.CuttingLaws.{and_left, goes_on, letter_not_on, digit_not_on, Passes, Stops, decimal_passes, of_kind_small, cut_word, cut_number, cut_mark, cut_include}

-- ---- what stands next

false_not_true : IsTrue false → ⊥
false_not_true h = subst (λ b. MatchBool b ⊥ (Unit {0})) h tt

sign_not_word : (s : Sign) (rest : List ℕ) → Stops is_word_byte (sign_text s ++ rest)
sign_not_word Arrow rest = refl
sign_not_word s rest = refl

sign_anew : (s : Sign) (rest : List ℕ) → IsTrue (starts_anew (sign_text s)) → Stops goes_on (sign_text s ++ rest)
sign_anew Arrow rest h = refl
sign_anew s rest h = ap not h

name_anew : (bytes rest : List ℕ) → IsName bytes → Stops goes_on (bytes ++ rest)
name_anew [] rest h = cc
name_anew (b ∷ bs) rest h = letter_not_on b (and_left (is_letter b) (are_word_bytes bs) h)

digits_anew : (ds rest : List ℕ) → Passes is_digit ds → 0 < length ds → Stops goes_on (ds ++ rest)
digits_anew [] rest h some = absurd (omega arith)
digits_anew (d ∷ ds) rest h some = digit_not_on d h.0

after_wordy : (ps : List Piece) → Every IsWellSet ps → Stops is_word_byte (laid_after true ps)
unfolding laid_after
after_wordy [] h = tt
after_wordy (Close (Word bytes) ∷ ps) h = refl
after_wordy (Close (Number n kind) ∷ ps) h = refl
after_wordy (Close (Mark s) ∷ ps) h = sign_not_word s (laid_after false ps)
after_wordy (Close Include ∷ ps) h = refl
after_wordy (Close (Unfit bytes) ∷ ps) h = refl
after_wordy (Close (Stray b) ∷ ps) h = absurd (false_not_true h.0)
after_wordy (Spaced s ∷ ps) h = refl
after_wordy (Ending s ∷ ps) h = subst (Stops is_word_byte) (sym (append_assoc (sign_text s) (10 ∷ []) (laid_after false ps))) (sign_not_word s (10 ∷ laid_after false ps))

after_sign : (ps : List Piece) → Every IsWellSet ps → Stops goes_on (laid_after false ps)
unfolding laid_after
after_sign [] h = tt
after_sign (Close (Word bytes) ∷ ps) h = name_anew bytes (laid_after true ps) h.0
after_sign (Close (Number n kind) ∷ ps) h =
    subst (Stops goes_on) (sym (append_assoc (decimal n) (suffix kind) (laid_after true ps)))
    (digits_anew (decimal n) (suffix kind ++ laid_after true ps) (decimal_passes n (of_kind_small n kind h.0)) (decimal_nonempty n (of_kind_small n kind h.0)))
after_sign (Close (Mark s) ∷ ps) h = sign_anew s (laid_after false ps) h.0
after_sign (Close Include ∷ ps) h = refl
after_sign (Close (Unfit bytes) ∷ ps) h = absurd (false_not_true h.0)
after_sign (Close (Stray b) ∷ ps) h = absurd (false_not_true h.0)
after_sign (Spaced s ∷ ps) h = refl
after_sign (Ending s ∷ ps) h = subst (Stops goes_on) (sym (append_assoc (sign_text s) (10 ∷ []) (laid_after false ps))) (sign_anew s (10 ∷ laid_after false ps) h.0)

-- ---- a list of pieces

cut_gap : (wordy other : Bool) (rest : List ℕ) → cut (gap wordy other ++ rest) ≡ cut rest
cut_gap true true rest = refl
cut_gap true false rest = refl
cut_gap false other rest = refl

-- a piece that is close to its neighbours
cut_close : (t : CTok) (wordy other : Bool) (bytes rest : List ℕ) (ts : List CTok) → cut (bytes ++ rest) ≡ t ∷ cut rest → cut rest ≡ ts → cut ((gap wordy other ++ bytes) ++ rest) ≡ t ∷ ts
cut_close t wordy other bytes rest ts h e =
    ap cut (append_assoc (gap wordy other) bytes rest) ∙ cut_gap wordy other (bytes ++ rest) ∙ h ∙ ap (λ (us : List CTok). t ∷ us) e

-- a sign with a blank behind it
cut_before_blank : (s : Sign) (b : ℕ) (rest : List ℕ) (ts : List CTok) → goes_on b ≡ false → cut (b ∷ rest) ≡ cut rest → cut rest ≡ ts → cut ((sign_text s ++ b ∷ []) ++ rest) ≡ Mark s ∷ ts
cut_before_blank s b rest ts stops blank e =
    ap cut (append_assoc (sign_text s) (b ∷ []) rest) ∙ cut_mark s (b ∷ rest) stops ∙ ap (λ (us : List CTok). Mark s ∷ us) (blank ∙ e)

pub cut_laid : (wordy : Bool) (ps : List Piece) → Every IsWellSet ps → cut (laid_after wordy ps) ≡ map token ps
unfolding laid_after
cut_laid wordy [] h = refl
cut_laid wordy (Close (Word bytes) ∷ ps) h =
    cut_close (Word bytes) wordy true bytes (laid_after true ps) (map token ps) (cut_word bytes (laid_after true ps) h.0 (after_wordy ps h.1)) (cut_laid true ps h.1)
cut_laid wordy (Close (Number n kind) ∷ ps) h =
    cut_close (Number n kind) wordy true (decimal n ++ suffix kind) (laid_after true ps) (map token ps) (cut_number n kind (laid_after true ps) h.0 (after_wordy ps h.1)) (cut_laid true ps h.1)
cut_laid wordy (Close (Mark s) ∷ ps) h =
    cut_close (Mark s) wordy false (sign_text s) (laid_after false ps) (map token ps) (cut_mark s (laid_after false ps) (after_sign ps h.1)) (cut_laid false ps h.1)
cut_laid wordy (Close Include ∷ ps) h = absurd (false_not_true h.0)
cut_laid wordy (Close (Unfit bytes) ∷ ps) h = absurd (false_not_true h.0)
cut_laid wordy (Close (Stray b) ∷ ps) h = absurd (false_not_true h.0)
cut_laid wordy (Spaced s ∷ ps) h = cut_before_blank s 32 (laid_after false ps) (map token ps) refl refl (cut_laid false ps h.1)
cut_laid wordy (Ending s ∷ ps) h = cut_before_blank s 10 (laid_after false ps) (map token ps) refl refl (cut_laid false ps h.1)

-- with the line of the library at the front
pub cut_first_laid : (ps : List Piece) → Every IsWellSet ps → cut_first (laid (Close Include ∷ ps)) ≡ Include ∷ map token ps
unfolding laid_after
cut_first_laid ps h = cut_include (laid_after false ps) ∙ ap (λ (ts : List CTok). Include ∷ ts) (cut_laid false ps h)

-- ---- the pieces of a tree

pub Every-append : {A : Type 0} (P : A → Type 0) (xs ys : List A) → Every P xs → Every P ys → Every P (xs ++ ys)
Every-append P [] ys h k = k
Every-append P (x ∷ xs) ys h k = (h.0, Every-append P xs ys h.1 k)

pub Every-flat_map : {A B : Type 0} (Q : A → Type 0) (P : B → Type 0) (f : A → List B) (each : (x : A) → Q x → Every P (f x)) (xs : List A) → Every Q xs → Every P (flat_map f xs)
Every-flat_map Q P f each [] h = tt
Every-flat_map Q P f each (x ∷ xs) h = Every-append P (f x) (flat_map f xs) (each x h.0) (Every-flat_map Q P f each xs h.1)

abbrev WellSet : List Piece → Type 0
WellSet ps = Every IsWellSet ps

-- two lists of pieces, one behind the other
and_then : (xs ys : List Piece) → WellSet xs → WellSet ys → WellSet (xs ++ ys)
and_then xs ys h k = Every-append IsWellSet xs ys h k

elem_is_name : (e : Elem) → IsName (elem_name e)
elem_is_name Sint = refl
elem_is_name e = refl

flagged_is_name : (e : Elem) → IsName (flagged_name e)
flagged_is_name Sint = refl
flagged_is_name e = refl

celled_is_name : (e : Elem) → IsName (celled_name e)
celled_is_name Sint = refl
celled_is_name e = refl

arrow_well : (x : Option (List ℕ)) → WellSpelledArrow x → WellSet (arrow_pieces x)
arrow_well None h = tt
arrow_well (Some name) h = (refl, (h, tt))

-- a path is its start and the pieces of its parts
start_well : (first : List ℕ) (arrow : Option (List ℕ)) (ps : List Piece) → IsName first → WellSpelledArrow arrow → WellSet ps → WellSet (start_pieces first arrow ++ ps)
start_well first arrow ps n h k = (n, and_then (arrow_pieces arrow) ps (arrow_well arrow h) k)

un_sign_anew : (op : CUn) → IsTrue (starts_anew (sign_text (un_sign op)))
un_sign_anew un.Minus = refl
un_sign_anew _ = refl

mutual
  unfolding expr_pieces

  expr_well : (e : CExpr) → WellSpelledExpr e → WellSet (expr_pieces e)
  expr_well (exprs.Number value kind) h = (h, tt)
  expr_well (exprs.Path' first arrow i parts) h = start_well first arrow (parts_pieces parts) h.0 h.1 (parts_well parts h.2)
  expr_well exprs.Moment h = (refl, tt)
  expr_well (exprs.GetVar' first arrow i parts) h = (refl, (refl, and_then (start_pieces first arrow ++ parts_pieces parts) _ (start_well first arrow (parts_pieces parts) h.0 h.1 (parts_well parts h.2)) (refl, tt)))
  expr_well (exprs.GetLocated' first arrow i parts) h = (refl, (refl, and_then (start_pieces first arrow ++ parts_pieces parts) _ (start_well first arrow (parts_pieces parts) h.0 h.1 (parts_well parts h.2)) (refl, tt)))
  expr_well (exprs.Call' name i xs) h = (h.0, (refl, and_then (args_pieces xs) _ (args_well xs h.1) (refl, tt)))
  expr_well (exprs.Bin' op i left k right) h =
      (refl, and_then (side_pieces left ++ Spaced (bin_sign op) ∷ side_pieces right) _ (and_then (side_pieces left) _ (side_well left h.0) (refl, side_well right h.1)) (refl, tt))
  expr_well (exprs.Un' op i inner) h = (refl, (un_sign_anew op, and_then (side_pieces inner) _ (side_well inner h) (refl, tt)))
  expr_well (exprs.Cast' to i inner) h = (refl, (refl, (elem_is_name to, (refl, and_then (side_pieces inner) _ (side_well inner h) (refl, tt)))))

  side_well : {m : _} → (x : Row_of-CExpr m) → WellSpelledSide x → WellSet (side_pieces x)
  side_well end_of-CExpr h = absurd h
  side_well (more_of-CExpr e rest) h = expr_well e h

  sel_well : (x : CSel) → WellSpelledSel x → WellSet (sel_pieces x)
  sel_well (sels.Field name) h = (refl, (h, tt))
  sel_well (sels.Index e) h = (refl, and_then (expr_pieces e) _ (expr_well e h) (refl, tt))

  parts_well : {m : _} → (parts : Row_of-CSel m) → WellSpelledParts parts → WellSet (parts_pieces parts)
  parts_well end_of-CSel h = tt
  parts_well (more_of-CSel x rest) h = and_then (sel_pieces x) (parts_pieces rest) (sel_well x h.0) (parts_well rest h.1)

  arg_well : (x : CArg) → WellSpelledArg x → WellSet (arg_pieces x)
  arg_well (args.Value e) h = expr_well e h
  arg_well (args.Address' first arrow i parts) h = (refl, start_well first arrow (parts_pieces parts) h.0 h.1 (parts_well parts h.2))
  arg_well (args.Pass name) h = (h, tt)

  args_well : {m : _} → (xs : Row_of-CArg m) → WellSpelledArgs xs → WellSet (args_pieces xs)
  args_well end_of-CArg h = tt
  args_well (more_of-CArg x rest) h = and_then (arg_pieces x) (later_args_pieces rest) (arg_well x h.0) (later_args_well rest h.1)

  later_args_well : {m : _} → (xs : Row_of-CArg m) → WellSpelledArgs xs → WellSet (later_args_pieces xs)
  later_args_well end_of-CArg h = tt
  later_args_well (more_of-CArg x rest) h = (refl, and_then (arg_pieces x) (later_args_pieces rest) (arg_well x h.0) (later_args_well rest h.1))

path_well : (p : CPath) → WellSpelledPath p → WellSet (path_pieces p)
unfolding path_pieces
path_well p h = start_well p.first p.arrow (flat_map sel_pieces p.parts) h.first h.arrow (Every-flat_map WellSpelledSel IsWellSet sel_pieces sel_well p.parts h.parts)

behind_well : {A : Type 0} (Q : A → Type 0) (f : A → List Piece) (each : (x : A) → Q x → WellSet (f x)) (xs : List A) → Every Q xs → WellSet (behind_commas f xs)
behind_well Q f each xs h = Every-flat_map Q IsWellSet (λ x. mark Comma ∷ f x) (λ x k. (refl, each x k)) xs h

between_well : {A : Type 0} (Q : A → Type 0) (f : A → List Piece) (each : (x : A) → Q x → WellSet (f x)) (xs : List A) → Every Q xs → WellSet (between_commas f xs)
between_well Q f each [] h = tt
between_well Q f each (x ∷ xs) h = and_then (f x) (behind_commas f xs) (each x h.0) (behind_well Q f each xs h.1)

call_well : (name : List ℕ) (xs : List CArg) → IsName name → Every WellSpelledArg xs → WellSet (call_pieces name xs)
call_well name xs n h = (n, (refl, and_then (between_commas arg_pieces xs) _ (between_well WellSpelledArg arg_pieces arg_well xs h) (refl, tt)))

test_well : (keyword : List ℕ) (e : CExpr) → IsName keyword → WellSpelledExpr e → WellSet (test_pieces keyword e)
test_well keyword e w h = (w, (refl, and_then (expr_pieces e) _ (expr_well e h) (refl, tt)))

braces_well : (ps : List Piece) → WellSet ps → WellSet (in_braces ps)
braces_well ps h = (refl, and_then ps _ h (refl, tt))

value_well : (value : Option CExpr) → WellSpelledValue value → WellSet (value_pieces value)
value_well None h = tt
value_well (Some e) h = expr_well e h

setting_well : (form : List ℕ) (to : CPath) (from : CExpr) → IsName form → WellSpelledPath to × WellSpelledExpr from → WellSet (setting_pieces form to from)
setting_well form to from n h =
    (n, (refl, and_then (path_pieces to ++ mark Comma ∷ expr_pieces from) _ (and_then (path_pieces to) (mark Comma ∷ expr_pieces from) (path_well to h.0) (refl, expr_well from h.1)) (refl, (refl, tt))))

mutual
  unfolding stmt_pieces

  stmt_well : (x : CStmt) → WellSpelledStmt x → WellSet (stmt_pieces x)
  stmt_well (Set to from) h = and_then (path_pieces to ++ Spaced Assign ∷ expr_pieces from) _ (and_then (path_pieces to) _ (path_well to h.0) (refl, expr_well from h.1)) (refl, tt)
  stmt_well (InitVar to from) h = setting_well (codes "__INIT_VAR") to from refl h
  stmt_well (SetVar to from) h = setting_well (codes "__SET_VAR") to from refl h
  stmt_well (InitLocated to cell) h = (refl, (refl, and_then (path_pieces to) _ (path_well to h.0) (refl, (h.1, (refl, (refl, tt))))))
  stmt_well (SetLocated to from) h = setting_well (codes "__SET_LOCATED") to from refl h
  stmt_well (Copy to from) h =
      (refl, (refl, and_then (path_pieces to ++ mark Comma ∷ path_pieces from) _ (and_then (path_pieces to) _ (path_well to h.0) (refl, path_well from h.1)) (refl, (refl, tt))))
  stmt_well (Publish p) h = (refl, (refl, and_then (path_pieces p) _ (path_well p h) (refl, (refl, tt))))
  stmt_well (Call name xs) h = and_then (call_pieces name xs) _ (call_well name xs h.0 h.1) (refl, tt)
  stmt_well (If' test i body other) h =
      and_then (test_pieces (codes "if") test ++ in_braces (stmts_pieces body)) _
      (and_then (test_pieces (codes "if") test) _ (test_well (codes "if") test refl h.0) (braces_well (stmts_pieces body) (stmts_well body h.1)))
      (else_well other h.2)
  stmt_well (While' test i body) h =
      and_then (test_pieces (codes "while") test) _ (test_well (codes "while") test refl h.0) (braces_well (stmts_pieces body) (stmts_well body h.1))
  stmt_well Break h = (refl, (refl, tt))
  stmt_well (Goto name) h = (refl, (h, (refl, tt)))
  stmt_well (Label name) h = (h, (refl, tt))
  stmt_well (Return value) h = (refl, and_then (value_pieces value) _ (value_well value h) (refl, tt))

  stmts_well : {m : _} → (stmts : Row_of-CStmt m) → WellSpelledStmts stmts → WellSet (stmts_pieces stmts)
  stmts_well end_of-CStmt h = tt
  stmts_well (more_of-CStmt x rest) h = and_then (stmt_pieces x) (stmts_pieces rest) (stmt_well x h.0) (stmts_well rest h.1)

  else_well : (other : Held-CStmt-If-2) → WellSpelledElse other → WellSet (else_pieces other)
  else_well None' h = tt
  else_well (Some' i stmts) h = (refl, braces_well (stmts_pieces stmts) (stmts_well stmts h))

ctype_well : (x : CType) → WellSpelledType x → WellSet (ctype_pieces x)
unfolding ctype_pieces
ctype_well (Plain e) h = (elem_is_name e, tt)
ctype_well (Flagged e) h = (flagged_is_name e, tt)
ctype_well (Celled e) h = (celled_is_name e, tt)
ctype_well (StructType name) h = (h, tt)

dim_well : (n : ℕ) → IsInt n → WellSet (dim_pieces n)
dim_well n h = (refl, (h, (refl, tt)))

result_well : (x : Option Elem) → IsWellSet (result_piece x)
result_well None = refl
result_well (Some e) = elem_is_name e

param_well : (x : CParam) → WellSpelledParam x → WellSet (param_pieces x)
unfolding param_pieces
param_well (ValueParam e name) h = (elem_is_name e, (h, tt))
param_well (Pointer to name) h = (h.0, (refl, (h.1, tt)))

params_well : (xs : List CParam) → Every WellSpelledParam xs → WellSet (params_pieces xs)
params_well [] h = (refl, tt)
params_well (x ∷ xs) h = between_well WellSpelledParam param_pieces param_well (x ∷ xs) h

local_well : (l : CLocal) → WellSpelledLocal l → WellSet (local_pieces l)
unfolding local_pieces
local_well l h = (elem_is_name l.elem, (h.name, (refl, and_then (expr_pieces l.init) _ (expr_well l.init h.init) (refl, tt))))

head_well : (result : Option Elem) (name : List ℕ) (ps : List CParam) → IsName name → Every WellSpelledParam ps → WellSet (head_pieces result name ps)
head_well result name ps n h = (result_well result, (n, (refl, and_then (params_pieces ps) _ (params_well ps h) (refl, (refl, tt)))))

body_well : (locals : List CLocal) (body : List CStmt) → Every WellSpelledLocal locals → Every WellSpelledStmt body → WellSet (body_pieces locals body)
body_well locals body ls ss =
    and_then (flat_map local_pieces locals ++ flat_map stmt_pieces body) _
    (and_then (flat_map local_pieces locals) (flat_map stmt_pieces body)
    (Every-flat_map WellSpelledLocal IsWellSet local_pieces local_well locals ls) (Every-flat_map WellSpelledStmt IsWellSet stmt_pieces stmt_well body ss))
    (refl, tt)

row_kind_well : (kind : CRow) → IsName (row_word kind)
row_kind_well Var = refl
row_kind_well Loc = refl
row_kind_well Step = refl

direction_is_name : (b : ℕ) → IsTrue (is_direction b) → IsName (b ∷ [])
direction_is_name b h = grind (arith, nat_tests)

size_is_name : (b : ℕ) → IsTrue (is_size b) → IsName (b ∷ [])
size_is_name b h = grind (arith, nat_tests)

numbers_well : (numbers : List ℕ) → Every IsInt numbers → WellSet (behind_commas int_pieces numbers)
numbers_well numbers h = behind_well IsInt int_pieces (λ n k. (k, tt)) numbers h

mutual
  unfolding item_pieces

  pub item_well : (x : CItem) → WellSpelledItem x → WellSet (item_pieces x)
  item_well (Struct' h members name) w =
      (refl, (refl, (refl, and_then (row_pieces members) _ (row_well members w.0) (refl, (w.1, (refl, tt))))))
  item_well (Object ty name dims) w =
      and_then (ctype_pieces ty ++ word name ∷ flat_map dim_pieces dims) _
      (and_then (ctype_pieces ty) (word name ∷ flat_map dim_pieces dims) (ctype_well ty w.0) (w.1, Every-flat_map IsInt IsWellSet dim_pieces dim_well dims w.2))
      (refl, tt)
  item_well (Located e name dir size numbers) w =
      (refl, (refl, (elem_is_name e, (refl, (w.0, (refl, (direction_is_name dir w.1, (refl, (size_is_name size w.2, and_then (behind_commas int_pieces numbers) _ (numbers_well numbers w.3) (refl, tt))))))))))
  item_well (Func result name ps locals body) w =
      and_then (head_pieces result name ps) (body_pieces locals body) (head_well result name ps w.0 w.1) (body_well locals body w.2 w.3)
  item_well (DebugRow n e p kind) w =
      (refl, (refl, (w.0, (refl, (elem_is_name e, (refl, and_then (path_pieces p) _ (path_well p w.1) (refl, (row_kind_well kind, (refl, (refl, tt))))))))))

  pub row_well : {m : _} → (items : Row_of-CItem m) → WellSpelledRow items → WellSet (row_pieces items)
  row_well end_of-CItem w = tt
  row_well (more_of-CItem x rest) w = and_then (item_pieces x) (row_pieces rest) (item_well x w.0) (row_well rest w.1)

pub items_well : (items : List CItem) → WellSpelledItems items → WellSet (items_pieces items)
items_well items h = Every-flat_map WellSpelledItem IsWellSet item_pieces item_well items h

-- ---- what is printed spells the unit

pub spells_part : (first : Bool) (items : List CItem) → WellSpelledItems items → SpellsPart first (printed_part first items) items
spells_part true items h = cut_first_laid (items_pieces items) (items_well items h)
spells_part false items h = cut_laid false (items_pieces items) (items_well items h)

spells_later : (parts : List CPart) → Every WellSpelledPart parts → SpellsParts false (map (part_text false) parts) parts
spells_later [] h = tt
spells_later (p ∷ parts) h = (refl, spells_part false p.items h.0, spells_later parts h.1)

spells_texts : (parts : List CPart) → Every WellSpelledPart parts → SpellsParts true (part_texts parts) parts
spells_texts [] h = tt
spells_texts (p ∷ parts) h = (refl, spells_part true p.items h.0, spells_later parts h.1)

pub spells_unit : (unit : CUnit) → WellSpelled unit → SpellsUnit (printed_unit unit) unit
spells_unit unit h = spells_texts unit.parts h
