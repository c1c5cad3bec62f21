-- Elements, members and calls: what they read and set, in which order, and where an index is undefined, computed.
use Prim.Native.String.{String}
use Rattle.std.proofs.Common.{◌≡◌, refl, ℕ, List, [], ◌∷◌, reverse, ◌+◌}
use Rattle.std.specs.Prelude.{codes, pos, negsuc, Some, None}
use Rattle.plc_base.specs.declared.elem.Elem.TheVariants.{Sint as SINT, Int as INT, Lint as LINT, Udint as UDINT, Bool as BOOL}
use Rattle.plc_base.specs.declared.which.Which.TheVariants.{Index as OutOfBounds, DivZero}
use Rattle.c_tree.specs.declared.tree.CArg.TheBlock.{hidden-the_row-CExpr-2}
use Rattle.c_tree.specs.declared.tree.CArg.TheVariants as arg
use Rattle.c_tree.specs.declared.tree.CBin.TheVariants.{Add, Mul, Div, Eq, Lt}
use Rattle.c_tree.specs.declared.tree.CExpr.{CExpr}
use Rattle.c_tree.specs.declared.tree.CExpr.TheVariants.{Number, Path, Bin, Un}
use Rattle.c_tree.specs.declared.tree.CItem.{CItem}
use Rattle.c_tree.specs.declared.tree.CItem.TheBlock.{hidden-the_row-CItem-0}
use Rattle.c_tree.specs.declared.tree.CNum.TheVariants.{LL}
use Rattle.c_tree.specs.declared.tree.CSel.{CSel}
use Rattle.c_tree.specs.declared.tree.CSel.TheVariants.{Index}
use Rattle.c_tree.specs.declared.tree.CStmt.{CStmt, Set, If, Return}
use Rattle.c_tree.specs.declared.tree.CStmt.TheBlock.{hidden-the_row-CStmt-0}
use Rattle.c_tree.specs.declared.tree.CType.TheVariants.{Plain, Struct as StructType}
use Rattle.c_tree.specs.declared.tree.CUn.TheVariants.{Minus}
use Rattle.c_meaning.specs.Outcome.{COut, CDone, Undefined}
use Rattle.c_meaning.specs.Values.{CVal, I32, U32, I64, of_type}
use Rattle.c_meaning.specs.Objects.{Named, Nth, Place, Objects, set_plain, no_objects}
use Rattle.c_meaning.specs.Items.{functions_of}
use Rattle.c_meaning.specs.Execution.{Frame, CStore, c_store, Got, CState, CNext, c_value, c_exec, call_of}
use Rattle.c_meaning.proofs.WorkedTrees.{parts_of, through, dot, nth, int, read, called, set, call, object, array, plain, structure, value, pointer, local, void, function}

-- ---- the items

-- INT X; UDINT V; INT A[2]; INT M[2][2]; typedef struct{ INT K; INT L[3]; } S; S T[2];
abbrev objects : List CItem
objects =
    plain "X" ∷ object (Plain UDINT) "V" ∷ array (Plain INT) "A" (2 ∷ []) ∷ array (Plain INT) "M" (2 ∷ 2 ∷ [])
    ∷ structure "S" (plain "K" ∷ array (Plain INT) "L" (3 ∷ []) ∷ []) ∷ array (StructType (codes "S")) "T" (2 ∷ []) ∷ []

abbrev minus : ℕ → CExpr
minus k = Un Minus (int k)

-- INT sign(INT a){ if((a < 0)){ return (-1); } if((a == 0)){ return 0; } return 1; }
abbrev sign : CItem
sign =
    function INT "sign" (value INT "a" ∷ []) []
    (If (Bin Lt (read "a") (int 0)) (Return (Some (minus 1)) ∷ []) None ∷ If (Bin Eq (read "a") (int 0)) (Return (Some (int 0)) ∷ []) None ∷ Return (Some (int 1)) ∷ [])

-- SINT narrow(void){ return 300; }
abbrev narrow : CItem
narrow = function SINT "narrow" [] [] (Return (Some (int 300)) ∷ [])

-- UDINT unsigned(void){ return (-1); }
abbrev unsigned : CItem
unsigned = function UDINT "unsigned" [] [] (Return (Some (minus 1)) ∷ [])

-- INT bump(void){ X = (X + 1); return X; }
abbrev bump : CItem
bump = function INT "bump" [] [] (set "X" (Bin Add (read "X") (int 1)) ∷ Return (Some (read "X")) ∷ [])

-- void fill(S*p,INT k){ p->K = k; p->L[2] = (k + 1); }
abbrev fill : CItem
fill = void "fill" (pointer "S" "p" ∷ value INT "k" ∷ []) [] (Set (through "p" "K" []) (read "k") ∷ Set (through "p" "L" (nth 2 ∷ [])) (Bin Add (read "k") (int 1)) ∷ [])

-- void hand(S*q){ fill(q,3); }
abbrev hand : CItem
hand = void "hand" (pointer "S" "q" ∷ []) [] (call "fill" (arg.Pass (codes "q") ∷ arg.Value (int 3) ∷ []) ∷ [])

-- SINT raise(SINT a){ a = (a + 100); return a; }
abbrev raise : CItem
raise = function SINT "raise" (value SINT "a" ∷ []) [] (set "a" (Bin Add (read "a") (int 100)) ∷ Return (Some (read "a")) ∷ [])

-- INT truth(BOOL a){ return a; }
abbrev truth : CItem
truth = function INT "truth" (value BOOL "a" ∷ []) [] (Return (Some (read "a")) ∷ [])

-- LINT keep(UDINT a){ return a; }
abbrev keep : CItem
keep = function LINT "keep" (value UDINT "a" ∷ []) [] (Return (Some (read "a")) ∷ [])

-- INT after(INT a){ SINT b = (a * 100); INT c = (b + 1); return c; }
abbrev after : CItem
after = function INT "after" (value INT "a" ∷ []) (local SINT "b" (Bin Mul (read "a") (int 100)) ∷ local INT "c" (Bin Add (read "b") (int 1)) ∷ []) (Return (Some (read "c")) ∷ [])

abbrev functions : List CItem
functions = sign ∷ narrow ∷ unsigned ∷ bump ∷ fill ∷ hand ∷ raise ∷ truth ∷ keep ∷ after ∷ []

-- behind all of them
abbrev here : Frame
here = record { items = objects; pointers = []; call = call_of objects (reverse (functions_of functions)) }

abbrev at : String → Place → Place
at name rest = Named (codes name) ∷ rest

abbrev value_of : CExpr → Objects → ℕ → COut (Got CVal)
value_of e o n = c_value here e (c_store o []) n

abbrev after_it : CStmt → Objects → ℕ → COut CState
after_it x o n = c_exec here x (c_store o []) n

-- a value, with objects and fuel behind it
abbrev gives : CVal → Objects → ℕ → COut (Got CVal)
gives v o n = CDone (v, c_store o []) n

abbrev leaves : Objects → ℕ → COut CState
leaves o n = CDone (c_store o [], CNext) n

abbrev element : String → List CSel → CExpr
element name parts = Path (parts_of name parts)

abbrev by_zero : CExpr
by_zero = Bin Div (int 1) (int 0)

abbrev x_is : ℕ → Objects → Objects
x_is k o = set_plain o (at "X" []) (pos k)

-- ---- indices

-- A[1], M[1][0], T[1].K, T[1].L[2]
elements_are_read : (o : Objects) (n : ℕ)
    → value_of (element "A" (nth 1 ∷ [])) o n ∷ value_of (element "M" (nth 1 ∷ nth 0 ∷ [])) o n
    ∷ value_of (element "T" (nth 1 ∷ dot "K" ∷ [])) o n ∷ value_of (element "T" (nth 1 ∷ dot "L" ∷ nth 2 ∷ [])) o n ∷ []
    ≡ gives (of_type I32 (o.val (at "A" (Nth 1 ∷ [])))) o n ∷ gives (of_type I32 (o.val (at "M" (Nth 1 ∷ Nth 0 ∷ [])))) o n
    ∷ gives (of_type I32 (o.val (at "T" (Nth 1 ∷ Named (codes "K") ∷ [])))) o n ∷ gives (of_type I32 (o.val (at "T" (Nth 1 ∷ Named (codes "L") ∷ Nth 2 ∷ [])))) o n ∷ []
unfolding hidden-the_row-CExpr-2 hidden-the_row-CItem-0 denote.Hole.Carrier.hidden
elements_are_read o n = refl

-- V works as its type does
unsigned_is_read : (o : Objects) (n : ℕ) → value_of (read "V") o n ≡ gives (of_type U32 (o.val (at "V" []))) o n
unfolding hidden-the_row-CExpr-2 denote.Hole.Carrier.hidden
unsigned_is_read o n = refl

-- A[2], A[(-1)], M[1][2], T[2].K, T[1].L[3]
out_of_bounds : (o : Objects) (n : ℕ)
    → value_of (element "A" (nth 2 ∷ [])) o n ∷ value_of (element "A" (Index (minus 1) ∷ [])) o n ∷ value_of (element "M" (nth 1 ∷ nth 2 ∷ [])) o n
    ∷ value_of (element "T" (nth 2 ∷ dot "K" ∷ [])) o n ∷ value_of (element "T" (nth 1 ∷ dot "L" ∷ nth 3 ∷ [])) o n ∷ []
    ≡ Undefined OutOfBounds ∷ Undefined OutOfBounds ∷ Undefined OutOfBounds ∷ Undefined OutOfBounds ∷ Undefined OutOfBounds ∷ []
unfolding hidden-the_row-CExpr-2 hidden-the_row-CItem-0 denote.Hole.Carrier.hidden
out_of_bounds o n = refl

-- M[2][(1 / 0)], M[(1 / 0)][2], M[1][(1 / 0)], T[2].L[(1 / 0)]: an index is tested before the next one is evaluated
first_index_first : (o : Objects) (n : ℕ)
    → value_of (element "M" (nth 2 ∷ Index by_zero ∷ [])) o n ∷ value_of (element "M" (Index by_zero ∷ nth 2 ∷ [])) o n
    ∷ value_of (element "M" (nth 1 ∷ Index by_zero ∷ [])) o n ∷ value_of (element "T" (nth 2 ∷ dot "L" ∷ Index by_zero ∷ [])) o n ∷ []
    ≡ Undefined OutOfBounds ∷ Undefined DivZero ∷ Undefined DivZero ∷ Undefined OutOfBounds ∷ []
unfolding hidden-the_row-CExpr-2 denote.Hole.Carrier.hidden
first_index_first o n = refl

-- (A[9] + (1 / 0)), ((1 / 0) + A[9])
left_side_first : (o : Objects) (n : ℕ)
    → value_of (Bin Add (element "A" (nth 9 ∷ [])) by_zero) o n ∷ value_of (Bin Add by_zero (element "A" (nth 9 ∷ []))) o n ∷ [] ≡ Undefined OutOfBounds ∷ Undefined DivZero ∷ []
unfolding hidden-the_row-CExpr-2 denote.Hole.Carrier.hidden
left_side_first o n = refl

-- A[1] = 70000; T[1].L[2] = 5;
elements_are_set : (o : Objects) (n : ℕ)
    → after_it (Set (parts_of "A" (nth 1 ∷ [])) (int 70000)) o n ∷ after_it (Set (parts_of "T" (nth 1 ∷ dot "L" ∷ nth 2 ∷ [])) (int 5)) o n ∷ []
    ≡ leaves (set_plain o (at "A" (Nth 1 ∷ [])) (pos 4464)) n ∷ leaves (set_plain o (at "T" (Nth 1 ∷ Named (codes "L") ∷ Nth 2 ∷ [])) (pos 5)) n ∷ []
unfolding hidden-the_row-CItem-0 denote.Hole.Carrier.hidden
elements_are_set o n = refl

-- A[9] = (1 / 0); A[1] = (1 / 0); A[1] = A[2];
path_before_value : (o : Objects) (n : ℕ)
    → after_it (Set (parts_of "A" (nth 9 ∷ [])) by_zero) o n ∷ after_it (Set (parts_of "A" (nth 1 ∷ [])) by_zero) o n
    ∷ after_it (Set (parts_of "A" (nth 1 ∷ [])) (element "A" (nth 2 ∷ []))) o n ∷ []
    ≡ Undefined OutOfBounds ∷ Undefined DivZero ∷ Undefined OutOfBounds ∷ []
unfolding hidden-the_row-CExpr-2 denote.Hole.Carrier.hidden
path_before_value o n = refl

-- ---- results

-- sign((-5)), sign(0), sign(9)
early_returns : (o : Objects) (n : ℕ)
    → value_of (called "sign" (arg.Value (minus 5) ∷ [])) o n ∷ value_of (called "sign" (arg.Value (int 0) ∷ [])) o n ∷ value_of (called "sign" (arg.Value (int 9) ∷ [])) o n ∷ []
    ≡ gives (of_type I32 (negsuc 0)) o n ∷ gives (of_type I32 (pos 0)) o n ∷ gives (of_type I32 (pos 1)) o n ∷ []
unfolding hidden-the_row-CExpr-2 hidden-the_row-CStmt-0 denote.Hole.Carrier.hidden
early_returns o n = refl

-- narrow(), unsigned(): a result is reduced to its type, and works as it does
results_are_reduced : (o : Objects) (n : ℕ)
    → value_of (called "narrow" []) o n ∷ value_of (called "unsigned" []) o n ∷ [] ≡ gives (of_type I32 (pos 44)) o n ∷ gives (of_type U32 (pos 4294967295)) o n ∷ []
unfolding hidden-the_row-CExpr-2 denote.Hole.Carrier.hidden
results_are_reduced o n = refl

-- A[sign(9)], A[sign((-9))]
call_as_an_index : (o : Objects) (n : ℕ)
    → value_of (element "A" (Index (called "sign" (arg.Value (int 9) ∷ [])) ∷ [])) o n ∷ value_of (element "A" (Index (called "sign" (arg.Value (minus 9) ∷ [])) ∷ [])) o n ∷ []
    ≡ gives (of_type I32 (o.val (at "A" (Nth 1 ∷ [])))) o n ∷ Undefined OutOfBounds ∷ []
unfolding hidden-the_row-CExpr-2 hidden-the_row-CStmt-0 denote.Hole.Carrier.hidden
call_as_an_index o n = refl

-- ---- what a call changes is seen behind it

-- (bump() + X), (X + bump()), (bump() + bump()), where X is 5
left_to_right : (n : ℕ)
    → value_of (Bin Add (called "bump" []) (read "X")) (x_is 5 no_objects) n ∷ value_of (Bin Add (read "X") (called "bump" [])) (x_is 5 no_objects) n
    ∷ value_of (Bin Add (called "bump" []) (called "bump" [])) (x_is 5 no_objects) n ∷ []
    ≡ gives (of_type I32 (pos 12)) (x_is 6 (x_is 5 no_objects)) n ∷ gives (of_type I32 (pos 11)) (x_is 6 (x_is 5 no_objects)) n
    ∷ gives (of_type I32 (pos 13)) (x_is 7 (x_is 6 (x_is 5 no_objects))) n ∷ []
unfolding hidden-the_row-CExpr-2 denote.Hole.Carrier.hidden
left_to_right n = refl

abbrev seven : Objects
seven = set_plain no_objects (at "A" (Nth 1 ∷ [])) (pos 7)

-- A[bump()]
index_changes_an_object : (n : ℕ) → value_of (element "A" (Index (called "bump" []) ∷ [])) seven n ≡ gives (of_type I32 (pos 7)) (x_is 1 seven) n
unfolding hidden-the_row-CExpr-2 denote.Hole.Carrier.hidden
index_changes_an_object n = refl

-- A[bump()] = X;
value_sees_what_the_path_changed : (n : ℕ) → after_it (Set (parts_of "A" (Index (called "bump" []) ∷ [])) (read "X")) seven n ≡ leaves (set_plain (x_is 1 seven) (at "A" (Nth 1 ∷ [])) (pos 1)) n
unfolding hidden-the_row-CExpr-2 denote.Hole.Carrier.hidden
value_sees_what_the_path_changed n = refl

-- ---- arguments

-- the members of T[i] that fill sets, where its value is k
abbrev filled : ℕ → ℕ → Objects → Objects
filled i k o = set_plain (set_plain o (at "T" (Nth i ∷ Named (codes "K") ∷ [])) (pos k)) (at "T" (Nth i ∷ Named (codes "L") ∷ Nth 2 ∷ [])) (pos (k + 1))

abbrev fill_it : CSel → CExpr → CStmt
fill_it x e = call "fill" (arg.Address (parts_of "T" (x ∷ [])) ∷ arg.Value e ∷ [])

-- fill(&T[1],7); fill(&T[1],70000); hand(&T[0]);
members_are_set : (o : Objects) (n : ℕ)
    → after_it (fill_it (nth 1) (int 7)) o n ∷ after_it (fill_it (nth 1) (int 70000)) o n ∷ after_it (call "hand" (arg.Address (parts_of "T" (nth 0 ∷ [])) ∷ [])) o n ∷ []
    ≡ leaves (filled 1 7 o) n ∷ leaves (filled 1 4464 o) n ∷ leaves (filled 0 3 o) n ∷ []
unfolding hidden-the_row-CExpr-2 hidden-the_row-CItem-0 denote.Hole.Carrier.hidden
members_are_set o n = refl

-- fill(&T[2],(1 / 0)); fill(&T[1],(1 / 0));
first_argument_first : (o : Objects) (n : ℕ) → after_it (fill_it (nth 2) by_zero) o n ∷ after_it (fill_it (nth 1) by_zero) o n ∷ [] ≡ Undefined OutOfBounds ∷ Undefined DivZero ∷ []
unfolding hidden-the_row-CExpr-2 denote.Hole.Carrier.hidden
first_argument_first o n = refl

-- fill(&T[bump()],X);
argument_sees_the_one_before : (n : ℕ) → after_it (fill_it (Index (called "bump" [])) (read "X")) no_objects n ≡ leaves (filled 1 1 (x_is 1 no_objects)) n
unfolding hidden-the_row-CExpr-2 hidden-the_row-CItem-0 denote.Hole.Carrier.hidden
argument_sees_the_one_before n = refl

-- raise(300): 44 and 100 in a SINT; truth(2); keep((-1)); keep(4294967297LL)
arguments_are_converted : (o : Objects) (n : ℕ)
    → value_of (called "raise" (arg.Value (int 300) ∷ [])) o n ∷ value_of (called "truth" (arg.Value (int 2) ∷ [])) o n
    ∷ value_of (called "keep" (arg.Value (minus 1) ∷ [])) o n ∷ value_of (called "keep" (arg.Value (Number 4294967297 LL) ∷ [])) o n ∷ []
    ≡ gives (of_type I32 (negsuc 111)) o n ∷ gives (of_type I32 (pos 0)) o n ∷ gives (of_type I64 (pos 4294967295)) o n ∷ gives (of_type I64 (pos 1)) o n ∷ []
unfolding hidden-the_row-CExpr-2 denote.Hole.Carrier.hidden
arguments_are_converted o n = refl

-- after(3): 300 in a SINT is 44
locals_start_in_turn : (o : Objects) (n : ℕ) → value_of (called "after" (arg.Value (int 3) ∷ [])) o n ≡ gives (of_type I32 (pos 45)) o n
unfolding hidden-the_row-CExpr-2 denote.Hole.Carrier.hidden
locals_start_in_turn o n = refl

-- (raise(1) + a), where the caller has a local a as well, of 5
abbrev five : Objects → CStore
five o = c_store o (record { name = codes "a"; elem = INT; value = pos 5 } ∷ [])

locals_of_the_caller_stay : (o : Objects) (n : ℕ) → c_value here (Bin Add (called "raise" (arg.Value (int 1) ∷ [])) (read "a")) (five o) n ≡ CDone (of_type I32 (pos 106), five o) n
unfolding hidden-the_row-CExpr-2 denote.Hole.Carrier.hidden
locals_of_the_caller_stay o n = refl
