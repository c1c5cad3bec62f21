-- What the forms do to values with flags and to cells, inputs and outputs, and what debug rows show and force, computed.
use Prim.Native.String.{String}
use Rattle.std.proofs.Common.{◌≡◌, refl, ℕ, Bool, true, false, List, [], ◌∷◌, ◌++◌, map}
use Rattle.std.specs.Prelude.{ℤ, codes, pos, Option, Some, None}
use Rattle.plc_base.specs.declared.elem.Elem.TheVariants.{Sint as SINT, Int as INT, Bool as BOOL}
use Rattle.plc_base.specs.declared.which.Which.TheVariants.{Index as OutOfBounds, DivZero, Unset}
use Rattle.c_tree.specs.declared.tree.CArg.TheBlock.{hidden-the_row-CExpr-2}
use Rattle.c_tree.specs.declared.tree.CBin.TheVariants.{Div}
use Rattle.c_tree.specs.declared.tree.CExpr.{CExpr}
use Rattle.c_tree.specs.declared.tree.CExpr.TheVariants.{Bin, GetVar, GetLocated, Moment}
use Rattle.c_tree.specs.declared.tree.CItem.{CItem, Located}
use Rattle.c_tree.specs.declared.tree.CItem.TheBlock.{hidden-the_row-CItem-0}
use Rattle.c_tree.specs.declared.tree.CRow.TheVariants.{Var, Loc, Step}
use Rattle.c_tree.specs.declared.tree.CSel.TheVariants.{Index}
use Rattle.c_tree.specs.declared.tree.CStmt.{CStmt, InitVar, SetVar, InitLocated, SetLocated, Copy, Publish}
use Rattle.c_tree.specs.declared.tree.CType.TheVariants.{Plain, Flagged, Celled, Struct as StructType}
use Rattle.c_tree.specs.declared.tree.CUnit.{CUnit}
use Rattle.c_meaning.specs.Outcome.{COut, CDone, CPast, Undefined, c_then}
use Rattle.c_meaning.specs.Values.{CVal, I32, I64, of_type}
use Rattle.c_meaning.specs.Objects.{Named, Nth, Place, Objects, put_at, no_objects, set_cell, force_var, force_located, released, init_located}
use Rattle.c_meaning.specs.Items.{DebugLine}
use Rattle.c_meaning.specs.Execution.{Frame, c_store, Got, CState, CNext, c_value, c_exec}
use Rattle.c_meaning.specs.Run.{at_moment, line_value, line_forced, line_released, c_input, c_outputs}
use Rattle.c_meaning.proofs.WorkedTrees.{alone, parts_of, dot, nth, int, set, object, array, flagged, celled, structure, cell, unit_of}

-- typedef struct{ __IEC_INT_t A; __IEC_BOOL_t B[2]; } E; E Y[2]; E Z[2];
-- __IEC_SINT_t W; __IEC_BOOL_t F; SINT N; BOOL G; __IEC_INT_p P; __IEC_INT_p R[2];
-- __LOCATED_VAR(INT,C,Q,W,0) __LOCATED_VAR(INT,D,Q,W,0)
abbrev items : List CItem
items =
    structure "E" (flagged "A" ∷ array (Flagged BOOL) "B" (2 ∷ []) ∷ []) ∷ array (StructType (codes "E")) "Y" (2 ∷ []) ∷ array (StructType (codes "E")) "Z" (2 ∷ [])
    ∷ object (Flagged SINT) "W" ∷ object (Flagged BOOL) "F" ∷ object (Plain SINT) "N" ∷ object (Plain BOOL) "G" ∷ celled "P" ∷ array (Celled INT) "R" (2 ∷ [])
    ∷ cell INT "C" ∷ cell INT "D" ∷ []

abbrev here : Frame
here = record { items = items; pointers = []; call = λ name xs o n. CPast }

abbrev at : String → Place
at name = Named (codes name) ∷ []

abbrev value_of : CExpr → Objects → ℕ → COut (Got CVal)
value_of e o n = c_value here e (c_store o []) n

abbrev after : CStmt → Objects → ℕ → COut CState
after x o n = c_exec here x (c_store o []) n

abbrev gives : CVal → Objects → ℕ → COut (Got CVal)
gives v o n = CDone (v, c_store o []) n

abbrev leaves : Objects → ℕ → COut CState
leaves o n = CDone (c_store o [], CNext) n

-- all that objects say of a place
record State : Type 0 where
  val : ℤ
  flag : Bool
  cell : Option (List ℕ)
  fvalue : ℤ

abbrev state : Place → Objects → State
state p o = record { val = o.val p; flag = o.flag p; cell = o.cell p; fvalue = o.fvalue p }

abbrev cells_C_D : Objects → List ℤ
cells_C_D o = o.cells (codes "C") ∷ o.cells (codes "D") ∷ []

-- what is seen of the objects behind a statement
abbrev seen : {A : Type 0} → (Objects → A) → COut CState → COut A
seen f y = c_then y (λ st n. CDone (f st.0.objects) n)

abbrev by_zero : CExpr
by_zero = Bin Div (int 1) (int 0)

-- ---- values with flags

-- W, forced to 9
abbrev w_forced : Objects → Objects
w_forced o = force_var o (at "W") (pos 9)

-- __INIT_VAR(W,300);
init_clears_the_flag : (o : Objects) (n : ℕ)
    → seen (state (at "W")) (after (InitVar (alone "W") (int 300)) (w_forced o) n) ≡ CDone (record { val = pos 44; flag = false; cell = o.cell (at "W"); fvalue = o.fvalue (at "W") }) n
init_clears_the_flag o n = refl

init_leaves_others : (o : Objects) (n : ℕ) → seen (state (at "F")) (after (InitVar (alone "W") (int 300)) (w_forced o) n) ≡ CDone (state (at "F") o) n
init_leaves_others o n = refl

-- __SET_VAR(W,5);
forced_stays : (o : Objects) (n : ℕ) → after (SetVar (alone "W") (int 5)) (w_forced o) n ≡ leaves (w_forced o) n
forced_stays o n = refl

-- __SET_VAR(W,300); and __SET_VAR(F,2); and __SET_VAR(F,3);
unforced_is_set : (o : Objects) (n : ℕ)
    → seen (λ p. p.val (at "W")) (after (SetVar (alone "W") (int 300)) (released o (at "W")) n)
    ∷ seen (λ p. p.val (at "F")) (after (SetVar (alone "F") (int 2)) (released o (at "F")) n)
    ∷ seen (λ p. p.val (at "F")) (after (SetVar (alone "F") (int 3)) (released o (at "F")) n) ∷ []
    ≡ CDone (pos 44) n ∷ CDone (pos 0) n ∷ CDone (pos 1) n ∷ []
unforced_is_set o n = refl

-- N = 300; G = 2;
plain_is_set : (o : Objects) (n : ℕ)
    → seen (λ p. p.val (at "N")) (after (set "N" (int 300)) o n) ∷ seen (λ p. p.val (at "G")) (after (set "G" (int 2)) o n) ∷ [] ≡ CDone (pos 44) n ∷ CDone (pos 0) n ∷ []
plain_is_set o n = refl

-- __GET_VAR(W)
value_is_read : (o : Objects) (n : ℕ) → value_of (GetVar (alone "W")) o n ∷ value_of (GetVar (alone "W")) (w_forced o) n ∷ [] ≡ gives (of_type I32 (o.val (at "W"))) o n ∷ gives (of_type I32 (pos 9)) (w_forced o) n ∷ []
unfolding hidden-the_row-CExpr-2 denote.Hole.Carrier.hidden
value_is_read o n = refl

-- ---- cells with flags

-- P with no cell, with the cell C, and with that and forced to 9
abbrev without_cell : Objects → Objects
without_cell o = record o { cell = put_at o.cell (at "P") None }

abbrev with_cell : Objects → Objects
with_cell o = init_located o (at "P") (codes "C")

abbrev p_forced : Objects → Objects
p_forced o = force_located o (at "P") (pos 9)

-- __GET_LOCATED(P)
cell_is_read : (o : Objects) (n : ℕ)
    → value_of (GetLocated (alone "P")) (with_cell o) n ∷ value_of (GetLocated (alone "P")) (p_forced (with_cell o)) n
    ∷ value_of (GetLocated (alone "P")) (without_cell o) n ∷ value_of (GetLocated (alone "P")) (p_forced (without_cell o)) n ∷ []
    ≡ gives (of_type I32 (o.cells (codes "C"))) (with_cell o) n ∷ gives (of_type I32 (pos 9)) (p_forced (with_cell o)) n ∷ Undefined Unset ∷ Undefined Unset ∷ []
unfolding hidden-the_row-CExpr-2 denote.Hole.Carrier.hidden
cell_is_read o n = refl

-- __SET_LOCATED(P,70000);
cell_is_set : (o : Objects) (n : ℕ)
    → seen cells_C_D (after (SetLocated (alone "P") (int 70000)) (with_cell o) n) ≡ CDone (pos 4464 ∷ o.cells (codes "D") ∷ []) n
cell_is_set o n = refl

-- __SET_LOCATED(P,5); where P is forced
forced_leaves_the_cell : (o : Objects) (n : ℕ) → after (SetLocated (alone "P") (int 5)) (p_forced (with_cell o)) n ≡ leaves (p_forced (with_cell o)) n
forced_leaves_the_cell o n = refl

-- __SET_LOCATED(P,5); and __SET_LOCATED(P,(1 / 0)); and __SET_LOCATED(R[2],(1 / 0)); without a cell
unset_behind_the_value : (o : Objects) (n : ℕ)
    → after (SetLocated (alone "P") (int 5)) (without_cell o) n ∷ after (SetLocated (alone "P") (int 5)) (p_forced (without_cell o)) n
    ∷ after (SetLocated (alone "P") by_zero) (without_cell o) n ∷ after (SetLocated (alone "P") by_zero) (p_forced (without_cell o)) n
    ∷ after (SetLocated (parts_of "R" (nth 2 ∷ [])) by_zero) o n ∷ []
    ≡ Undefined Unset ∷ Undefined Unset ∷ Undefined DivZero ∷ Undefined DivZero ∷ Undefined OutOfBounds ∷ []
unfolding hidden-the_row-CExpr-2 denote.Hole.Carrier.hidden
unset_behind_the_value o n = refl

-- __PUBLISH(P);
forced_is_published : (o : Objects) (n : ℕ) → seen cells_C_D (after (Publish (alone "P")) (p_forced (with_cell o)) n) ≡ CDone (pos 9 ∷ o.cells (codes "D") ∷ []) n
forced_is_published o n = refl

published_is_forced_still : (o : Objects) (n : ℕ) → seen (state (at "P")) (after (Publish (alone "P")) (p_forced (with_cell o)) n) ≡ CDone (state (at "P") (p_forced (with_cell o))) n
published_is_forced_still o n = refl

unforced_is_not_published : (o : Objects) (n : ℕ)
    → after (Publish (alone "P")) (with_cell o) n ∷ after (Publish (alone "P")) (without_cell o) n ∷ after (Publish (alone "P")) (p_forced (without_cell o)) n ∷ []
    ≡ leaves (with_cell o) n ∷ Undefined Unset ∷ Undefined Unset ∷ []
unforced_is_not_published o n = refl

-- __INIT_LOCATED(P,D);
init_clears_flag_and_forced_value : (o : Objects) (n : ℕ)
    → seen (state (at "P")) (after (InitLocated (alone "P") (codes "D")) (p_forced (with_cell o)) n) ≡ CDone (record { val = o.val (at "P"); flag = false; cell = Some (codes "D"); fvalue = pos 0 }) n
init_clears_flag_and_forced_value o n = refl

init_leaves_the_cells : (o : Objects) (n : ℕ) → seen cells_C_D (after (InitLocated (alone "P") (codes "D")) (p_forced (with_cell o)) n) ≡ CDone (cells_C_D o) n
init_leaves_the_cells o n = refl

-- ---- copies

-- the leaves of Y or Z in order
abbrev parts : String → ℕ → List Place
parts name i =
    (Named (codes name) ∷ Nth i ∷ Named (codes "A") ∷ []) ∷ (Named (codes name) ∷ Nth i ∷ Named (codes "B") ∷ Nth 0 ∷ [])
    ∷ (Named (codes name) ∷ Nth i ∷ Named (codes "B") ∷ Nth 1 ∷ []) ∷ []

abbrev all_leaves : String → List Place
all_leaves name = parts name 0 ++ parts name 1

-- values at places, one for one
abbrev put : Objects → List Place → List ℕ → Objects
put o [] zs = o
put o (p ∷ ps) [] = o
put o (p ∷ ps) (z ∷ zs) = put (record o { val = put_at o.val p (pos z) }) ps zs

-- Y[1].B[0] is forced to 0
abbrev before : Objects
before = force_var (put (put no_objects (all_leaves "Y") (1 ∷ 0 ∷ 1 ∷ 2 ∷ 1 ∷ 0 ∷ [])) (all_leaves "Z") (11 ∷ 1 ∷ 0 ∷ 12 ∷ 1 ∷ 1 ∷ [])) (Named (codes "Y") ∷ Nth 1 ∷ Named (codes "B") ∷ Nth 0 ∷ []) (pos 0)

abbrev numbers : List ℕ → List ℤ
numbers zs = map pos zs

-- __COPY(Y,Z);
all_but_the_forced_leaf : (n : ℕ)
    → seen (λ p. map p.val (all_leaves "Y") ++ map p.val (all_leaves "Z")) (after (Copy (alone "Y") (alone "Z")) before n)
    ≡ CDone (numbers (11 ∷ 1 ∷ 0 ∷ 12 ∷ 0 ∷ 1 ∷ 11 ∷ 1 ∷ 0 ∷ 12 ∷ 1 ∷ 1 ∷ [])) n
unfolding hidden-the_row-CItem-0 denote.Hole.Carrier.hidden
all_but_the_forced_leaf n = refl

flags_stay : (n : ℕ) → seen (λ p. map p.flag (all_leaves "Y")) (after (Copy (alone "Y") (alone "Z")) before n) ≡ CDone (false ∷ false ∷ false ∷ false ∷ true ∷ false ∷ []) n
unfolding hidden-the_row-CItem-0 denote.Hole.Carrier.hidden
flags_stay n = refl

-- __COPY(Y[1],Z[0]); and __COPY(Y[0].B[0],Z[1].B[0]); and __COPY(Y[0].B,Z[0].B);
parts_are_copied : (n : ℕ)
    → seen (λ p. map p.val (all_leaves "Y")) (after (Copy (parts_of "Y" (nth 1 ∷ [])) (parts_of "Z" (nth 0 ∷ []))) before n)
    ∷ seen (λ p. map p.val (all_leaves "Y")) (after (Copy (parts_of "Y" (nth 0 ∷ dot "B" ∷ nth 0 ∷ [])) (parts_of "Z" (nth 1 ∷ dot "B" ∷ nth 0 ∷ []))) before n)
    ∷ seen (λ p. map p.val (all_leaves "Y")) (after (Copy (parts_of "Y" (nth 0 ∷ dot "B" ∷ [])) (parts_of "Z" (nth 0 ∷ dot "B" ∷ []))) before n) ∷ []
    ≡ CDone (numbers (1 ∷ 0 ∷ 1 ∷ 11 ∷ 0 ∷ 0 ∷ [])) n ∷ CDone (numbers (1 ∷ 1 ∷ 1 ∷ 2 ∷ 0 ∷ 0 ∷ [])) n ∷ CDone (numbers (1 ∷ 1 ∷ 0 ∷ 2 ∷ 0 ∷ 0 ∷ [])) n ∷ []
unfolding hidden-the_row-CItem-0 denote.Hole.Carrier.hidden
parts_are_copied n = refl

-- __COPY(Y[2],Z[(1 / 0)]); __COPY(Y[1],Z[(1 / 0)]);
first_path_first : (o : Objects) (n : ℕ)
    → after (Copy (parts_of "Y" (nth 2 ∷ [])) (parts_of "Z" (Index by_zero ∷ []))) o n ∷ after (Copy (parts_of "Y" (nth 1 ∷ [])) (parts_of "Z" (Index by_zero ∷ []))) o n ∷ []
    ≡ Undefined OutOfBounds ∷ Undefined DivZero ∷ []
unfolding hidden-the_row-CExpr-2 denote.Hole.Carrier.hidden
first_path_first o n = refl

-- ---- the moment

-- __CURRENT_TIME
moment_is_read : (o : Objects) (n : ℕ) (m : ℤ) → value_of Moment (at_moment o m) n ≡ gives (of_type I64 m) (at_moment o m) n
moment_is_read o n m = refl

-- ---- inputs and outputs

-- two cells of one address are two places; the first one has its inputs, and both are outputs
-- __LOCATED_VAR(INT,A,I,W,3) __LOCATED_VAR(INT,B,I,W,3) __LOCATED_VAR(INT,C,Q,W,0) __LOCATED_VAR(INT,D,Q,W,0) __LOCATED_VAR(BOOL,E,Q,X,0,1)
abbrev cells : CUnit
cells =
    unit_of
    (Located INT (codes "A") 73 87 (3 ∷ []) ∷ Located INT (codes "B") 73 87 (3 ∷ []) ∷ cell INT "C" ∷ cell INT "D" ∷ Located BOOL (codes "E") 81 88 (0 ∷ 1 ∷ []) ∷ [])

abbrev all_cells : Objects → List ℤ
all_cells o = o.cells (codes "A") ∷ o.cells (codes "B") ∷ o.cells (codes "C") ∷ o.cells (codes "D") ∷ o.cells (codes "E") ∷ []

inputs_of_an_address : (o : Objects)
    → all_cells (c_input cells 73 87 (3 ∷ []) (pos 70000) o) ∷ all_cells (c_input cells 81 87 (0 ∷ []) (pos 5) o) ∷ all_cells (c_input cells 81 88 (0 ∷ 1 ∷ []) (pos 3) o) ∷ []
    ≡ (pos 4464 ∷ o.cells (codes "B") ∷ o.cells (codes "C") ∷ o.cells (codes "D") ∷ o.cells (codes "E") ∷ [])
    ∷ (o.cells (codes "A") ∷ o.cells (codes "B") ∷ pos 5 ∷ o.cells (codes "D") ∷ o.cells (codes "E") ∷ [])
    ∷ (o.cells (codes "A") ∷ o.cells (codes "B") ∷ o.cells (codes "C") ∷ o.cells (codes "D") ∷ pos 1 ∷ []) ∷ []
inputs_of_an_address o = refl

-- other numbers, another size, and another direction
inputs_of_no_cell : (o : Objects) → c_input cells 73 87 (4 ∷ []) (pos 5) o ∷ c_input cells 73 66 (3 ∷ []) (pos 5) o ∷ c_input cells 77 87 (3 ∷ []) (pos 5) o ∷ c_input cells 81 88 (0 ∷ []) (pos 5) o ∷ [] ≡ o ∷ o ∷ o ∷ o ∷ []
inputs_of_no_cell o = refl

outputs_in_order : (o : Objects) → c_outputs cells (set_cell o (codes "C") (pos 7)) ≡ pos 7 ∷ o.cells (codes "D") ∷ o.cells (codes "E") ∷ []
outputs_in_order o = refl

-- ---- debug rows

-- __DEBUG_ROW(0,INT,Y[1].A,VAR); __DEBUG_ROW(1,INT,P,LOC); __DEBUG_ROW(2,BOOL,F,STEP);
abbrev y_line : DebugLine
y_line = record { number = 0; elem = INT; path = parts_of "Y" (nth 1 ∷ dot "A" ∷ []); kind = Var }

abbrev p_line : DebugLine
p_line = record { number = 1; elem = INT; path = alone "P"; kind = Loc }

abbrev f_line : DebugLine
f_line = record { number = 2; elem = BOOL; path = alone "F"; kind = Step }

abbrev y_place : Place
y_place = Named (codes "Y") ∷ Nth 1 ∷ Named (codes "A") ∷ []

VAR_shows_the_value : (o : Objects) → line_value o y_line ≡ o.val y_place
VAR_shows_the_value o = refl

-- a force sets the value and holds it, and a release leaves it
VAR_is_forced : (o : Objects) → state y_place (line_forced o y_line (pos 7)) ≡ record { val = pos 7; flag = true; cell = o.cell y_place; fvalue = o.fvalue y_place }
VAR_is_forced o = refl

VAR_is_held : (o : Objects) (n : ℕ) → after (SetVar (parts_of "Y" (nth 1 ∷ dot "A" ∷ [])) (int 5)) (line_forced o y_line (pos 7)) n ≡ leaves (line_forced o y_line (pos 7)) n
VAR_is_held o n = refl

VAR_is_released : (o : Objects) → state y_place (line_released (line_forced o y_line (pos 7)) y_line) ≡ record { val = pos 7; flag = false; cell = o.cell y_place; fvalue = o.fvalue y_place }
VAR_is_released o = refl

VAR_shows_what_was_forced : (o : Objects)
    → line_value (line_forced o y_line (pos 7)) y_line ∷ line_value (line_released (line_forced o y_line (pos 7)) y_line) y_line ∷ [] ≡ pos 7 ∷ pos 7 ∷ []
VAR_shows_what_was_forced o = refl

LOC_shows_the_cell : (o : Objects)
    → line_value (with_cell o) p_line ∷ line_value (p_forced (with_cell o)) p_line ∷ line_value (without_cell o) p_line ∷ line_value (p_forced (without_cell o)) p_line ∷ []
    ≡ o.cells (codes "C") ∷ pos 9 ∷ pos 0 ∷ pos 0 ∷ []
LOC_shows_the_cell o = refl

-- a force sets the forced value and leaves the cell, which is shown again behind a release
LOC_is_forced : (o : Objects) → state (at "P") (line_forced (with_cell o) p_line (pos 7)) ≡ record { val = o.val (at "P"); flag = true; cell = Some (codes "C"); fvalue = pos 7 }
LOC_is_forced o = refl

LOC_leaves_the_cells : (o : Objects) → cells_C_D (line_forced (with_cell o) p_line (pos 7)) ≡ cells_C_D o
LOC_leaves_the_cells o = refl

LOC_is_held : (o : Objects) (n : ℕ) → after (SetLocated (alone "P") (int 5)) (line_forced (with_cell o) p_line (pos 7)) n ≡ leaves (line_forced (with_cell o) p_line (pos 7)) n
LOC_is_held o n = refl

LOC_shows_the_cell_again : (o : Objects)
    → line_value (line_forced (with_cell o) p_line (pos 7)) p_line ∷ line_value (line_released (line_forced (with_cell o) p_line (pos 7)) p_line) p_line ∷ [] ≡ pos 7 ∷ o.cells (codes "C") ∷ []
LOC_shows_the_cell_again o = refl

LOC_is_released : (o : Objects) → (line_released (line_forced (with_cell o) p_line (pos 7)) p_line).flag (at "P") ≡ false
LOC_is_released o = refl

-- a step is as a value with flags
STEP_shows_the_value : (o : Objects) → line_value o f_line ≡ o.val (at "F")
STEP_shows_the_value o = refl

STEP_force_and_release : (o : Objects)
    → line_forced o f_line (pos 1) ∷ line_released (line_forced o f_line (pos 1)) f_line ∷ [] ≡ force_var o (at "F") (pos 1) ∷ released (force_var o (at "F") (pos 1)) (at "F") ∷ []
STEP_force_and_release o = refl
