-- Jumps to labels, what they pass by, and what they cost, computed.
use Rattle.std.proofs.Common.{◌≡◌, refl, ℕ, suc, List, [], ◌∷◌}
use Rattle.std.specs.Prelude.{codes, pos, Some, None}
use Rattle.plc_base.specs.declared.elem.Elem.TheVariants.{Int as INT, Sint as SINT}
use Rattle.c_tree.specs.declared.tree.CArg.TheBlock.{hidden-the_row-CExpr-2}
use Rattle.c_tree.specs.declared.tree.CBin.TheVariants.{Add, Mul, Eq, Lt}
use Rattle.c_tree.specs.declared.tree.CExpr.{CExpr}
use Rattle.c_tree.specs.declared.tree.CExpr.TheVariants.{Bin}
use Rattle.c_tree.specs.declared.tree.CStmt.{CStmt, If, While, Break, Return}
use Rattle.c_tree.specs.declared.tree.CStmt.TheBlock.{hidden-the_row-CStmt-0}
use Rattle.c_tree.specs.declared.tree.CUnit.{CUnit}
use Rattle.c_meaning.specs.Outcome.{COut, CDone, CPast}
use Rattle.c_meaning.specs.Values.{I32, of_type}
use Rattle.c_meaning.specs.Objects.{Named, Objects, set_plain, no_objects}
use Rattle.c_meaning.specs.Items.{Function}
use Rattle.c_meaning.specs.Execution.{Frame, CStore, c_store, CState, CNext, Returned, c_body, function_run}
use Rattle.c_meaning.specs.Run.{c_call}
use Rattle.c_meaning.proofs.WorkedTrees.{int, read, set, call, goto, label, plain, local, void, unit_of}

abbrev i : CExpr
i = read "i"

abbrev plus : ℕ → CStmt
plus k = set "i" (Bin Add i (int k))

abbrev where_below : ℕ → CStmt → CStmt
where_below k x = If (Bin Lt i (int k)) (x ∷ []) None

-- a local i of INT
abbrev at : Objects → ℕ → CStore
at o k = c_store o (record { name = codes "i"; elem = INT; value = pos k } ∷ [])

abbrev ends_at : Objects → ℕ → ℕ → COut CState
ends_at o k n = CDone (at o k, CNext) n

-- ---- forward: no turn

-- goto end; i = 9; end: i = (i + 1);
forward : (fr : Frame) (o : Objects) (n : ℕ) → c_body fr (goto "end" ∷ set "i" (int 9) ∷ label "end" ∷ plus 1 ∷ []) (at o 0) n ≡ ends_at o 1 n
unfolding hidden-the_row-CExpr-2 denote.Hole.Carrier.hidden
forward fr o n = refl

-- goto end; other: i = 9; end: i = (i + 1);
past_another_label : (fr : Frame) (o : Objects) (n : ℕ) → c_body fr (goto "end" ∷ label "other" ∷ set "i" (int 9) ∷ label "end" ∷ plus 1 ∷ []) (at o 0) n ≡ ends_at o 1 n
unfolding hidden-the_row-CExpr-2 denote.Hole.Carrier.hidden
past_another_label fr o n = refl

-- a label that nobody seeks does nothing
label_alone : (fr : Frame) (o : Objects) (n : ℕ) → c_body fr (plus 1 ∷ label "end" ∷ plus 1 ∷ []) (at o 0) n ≡ ends_at o 2 n
unfolding hidden-the_row-CExpr-2 denote.Hole.Carrier.hidden
label_alone fr o n = refl

-- if((i == 0)){ i = 5; } else { goto end; } i = (i + 1); end: i = (i + 10);
abbrev branches : List CStmt
branches = If (Bin Eq i (int 0)) (set "i" (int 5) ∷ []) (Some (goto "end" ∷ [])) ∷ plus 1 ∷ label "end" ∷ plus 10 ∷ []

no_jump_in_the_else : (fr : Frame) (o : Objects) (n : ℕ) → c_body fr branches (at o 0) n ≡ ends_at o 16 n
unfolding hidden-the_row-CExpr-2 hidden-the_row-CStmt-0 denote.Hole.Carrier.hidden
no_jump_in_the_else fr o n = refl

jump_in_the_else : (fr : Frame) (o : Objects) (n : ℕ) → c_body fr branches (at o 1) n ≡ ends_at o 11 n
unfolding hidden-the_row-CExpr-2 hidden-the_row-CStmt-0 denote.Hole.Carrier.hidden
jump_in_the_else fr o n = refl

-- ---- back: a turn each

-- top: i = (i + 1); if((i < 3)){ goto top; } i = (i + 10);
abbrev climb : List CStmt
climb = label "top" ∷ plus 1 ∷ where_below 3 (goto "top") ∷ plus 10 ∷ []

two_jumps_back : (fr : Frame) (o : Objects) (n : ℕ) → c_body fr climb (at o 0) (suc (suc n)) ≡ ends_at o 13 n
unfolding hidden-the_row-CExpr-2 hidden-the_row-CStmt-0 denote.Hole.Carrier.hidden
two_jumps_back fr o n = refl

one_jump_back : (fr : Frame) (o : Objects) → c_body fr climb (at o 1) 1 ≡ ends_at o 13 0
unfolding hidden-the_row-CExpr-2 hidden-the_row-CStmt-0 denote.Hole.Carrier.hidden
one_jump_back fr o = refl

one_jump_back_is_too_many : (fr : Frame) (o : Objects) → c_body fr climb (at o 1) 0 ≡ CPast
unfolding hidden-the_row-CExpr-2 hidden-the_row-CStmt-0 denote.Hole.Carrier.hidden
one_jump_back_is_too_many fr o = refl

no_jump_back : (fr : Frame) (o : Objects) → c_body fr climb (at o 2) 0 ≡ ends_at o 13 0
unfolding hidden-the_row-CExpr-2 denote.Hole.Carrier.hidden
no_jump_back fr o = refl

two_jumps_back_are_too_many : (fr : Frame) (o : Objects) → c_body fr climb (at o 0) 1 ≡ CPast
unfolding hidden-the_row-CExpr-2 hidden-the_row-CStmt-0 denote.Hole.Carrier.hidden
two_jumps_back_are_too_many fr o = refl

-- i = (i + 1); again: i = (i + 2); if((i < 5)){ goto again; }: what stands before the label is not done again
behind_the_label_alone : (fr : Frame) (o : Objects) (n : ℕ) → c_body fr (plus 1 ∷ label "again" ∷ plus 2 ∷ where_below 5 (goto "again") ∷ []) (at o 0) (suc n) ≡ ends_at o 5 n
unfolding hidden-the_row-CExpr-2 hidden-the_row-CStmt-0 denote.Hole.Carrier.hidden
behind_the_label_alone fr o n = refl

-- goto second; first: i = (i * 2); goto end; second: i = (i + 3); goto first; end: i = (i + 10);
one_of_three_goes_back : (fr : Frame) (o : Objects) (n : ℕ)
    → c_body fr
    (goto "second" ∷ label "first" ∷ set "i" (Bin Mul i (int 2)) ∷ goto "end" ∷ label "second" ∷ plus 3 ∷ goto "first" ∷ label "end" ∷ plus 10 ∷ [])
    (at o 1) (suc n)
    ≡ ends_at o 18 n
unfolding hidden-the_row-CExpr-2 denote.Hole.Carrier.hidden
one_of_three_goes_back fr o n = refl

-- top: goto top;
never_ends : (fr : Frame) (o : Objects) → c_body fr (label "top" ∷ goto "top" ∷ []) (at o 0) 9 ≡ CPast
never_ends fr o = refl

-- ---- out of loops

-- while((i < 9)){ i = (i + 1); if((i == 2)){ goto out; } } i = 7; out: i = (i + 10);
abbrev leaving : List CStmt
leaving = While (Bin Lt i (int 9)) (plus 1 ∷ If (Bin Eq i (int 2)) (goto "out" ∷ []) None ∷ []) ∷ set "i" (int 7) ∷ label "out" ∷ plus 10 ∷ []

out_of_a_loop : (fr : Frame) (o : Objects) (n : ℕ) → c_body fr leaving (at o 0) (suc (suc n)) ≡ ends_at o 12 n
unfolding hidden-the_row-CExpr-2 hidden-the_row-CStmt-0 denote.Hole.Carrier.hidden
out_of_a_loop fr o n = refl

out_of_a_loop_is_too_late : (fr : Frame) (o : Objects) → c_body fr leaving (at o 0) 1 ≡ CPast
unfolding hidden-the_row-CExpr-2 hidden-the_row-CStmt-0 denote.Hole.Carrier.hidden
out_of_a_loop_is_too_late fr o = refl

-- while(1){ while(1){ goto out; } } out: i = (i + 10);
out_of_two_loops : (fr : Frame) (o : Objects) (n : ℕ)
    → c_body fr (While (int 1) (While (int 1) (goto "out" ∷ []) ∷ []) ∷ label "out" ∷ plus 10 ∷ []) (at o 0) (suc (suc n)) ≡ ends_at o 10 n
unfolding hidden-the_row-CExpr-2 hidden-the_row-CStmt-0 denote.Hole.Carrier.hidden
out_of_two_loops fr o n = refl

-- top: i = (i + 1); while(1){ if((i < 3)){ goto top; } break; }: three turns and two jumps back
abbrev back_out_of_a_loop : List CStmt
back_out_of_a_loop = label "top" ∷ plus 1 ∷ While (int 1) (where_below 3 (goto "top") ∷ Break ∷ []) ∷ []

five_in_all : (fr : Frame) (o : Objects) → c_body fr back_out_of_a_loop (at o 0) 5 ≡ ends_at o 3 0
unfolding hidden-the_row-CExpr-2 hidden-the_row-CStmt-0 denote.Hole.Carrier.hidden
five_in_all fr o = refl

four_are_too_few : (fr : Frame) (o : Objects) → c_body fr back_out_of_a_loop (at o 0) 4 ≡ CPast
unfolding hidden-the_row-CExpr-2 hidden-the_row-CStmt-0 denote.Hole.Carrier.hidden
four_are_too_few fr o = refl

-- ---- return

-- while(1){ if((i == 1)){ return (i + 6); } i = (i + 1); } i = 9;
return_leaves_a_loop : (fr : Frame) (o : Objects) (n : ℕ)
    → c_body fr (While (int 1) (If (Bin Eq i (int 1)) (Return (Some (Bin Add i (int 6))) ∷ []) None ∷ plus 1 ∷ []) ∷ set "i" (int 9) ∷ []) (at o 0) (suc (suc n))
    ≡ CDone (at o 1, Returned (Some (of_type I32 (pos 7)))) n
unfolding hidden-the_row-CExpr-2 hidden-the_row-CStmt-0 denote.Hole.Carrier.hidden
return_leaves_a_loop fr o n = refl

-- goto end; return 1; end: return 2; i = 9;
return_behind_a_label : (fr : Frame) (o : Objects) (n : ℕ)
    → c_body fr (goto "end" ∷ Return (Some (int 1)) ∷ label "end" ∷ Return (Some (int 2)) ∷ set "i" (int 9) ∷ []) (at o 0) n
    ≡ CDone (at o 0, Returned (Some (of_type I32 (pos 2)))) n
return_behind_a_label fr o n = refl

-- ---- whole functions

-- SINT f(void){ INT i = 0; top: i = (i + 1); if((i < 3)){ goto top; } return (i * 100); }: 300 in a SINT is 44
abbrev f : Function
f = record {
  result = Some SINT;
  name = codes "f";
  params = [];
  locals = local INT "i" (int 0) ∷ [];
  body = label "top" ∷ plus 1 ∷ where_below 3 (goto "top") ∷ Return (Some (Bin Mul i (int 100))) ∷ [];
}

jumps_in_a_function : (o : Objects) (n : ℕ) → function_run [] (λ name xs p k. CPast) f [] o (suc (suc n)) ≡ CDone (record { objects = o; result = Some (of_type I32 (pos 44)) }) n
unfolding hidden-the_row-CExpr-2 hidden-the_row-CStmt-0 denote.Hole.Carrier.hidden
jumps_in_a_function o n = refl

-- INT X; void g(void){ top: X = (X + 1); if((X < 2)){ goto top; } } void h(void){ g(); goto top; X = 9; top: g(); }
abbrev unit : CUnit
unit =
    unit_of
    (plain "X"
    ∷ void "g" [] [] (label "top" ∷ set "X" (Bin Add (read "X") (int 1)) ∷ If (Bin Lt (read "X") (int 2)) (goto "top" ∷ []) None ∷ [])
    ∷ void "h" [] [] (call "g" [] ∷ goto "top" ∷ set "X" (int 9) ∷ label "top" ∷ call "g" [] ∷ [])
    ∷ [])

abbrev set_x : Objects → ℕ → Objects
set_x o k = set_plain o (Named (codes "X") ∷ []) (pos k)

-- each function has its own labels, and all jumps back have one bound
jumps_in_a_callee : c_call unit (codes "h") [] no_objects 1 ≡ CDone (record { objects = set_x (set_x (set_x no_objects 1) 2) 3; result = None }) 0
unfolding hidden-the_row-CExpr-2 hidden-the_row-CStmt-0 denote.Hole.Carrier.hidden
jumps_in_a_callee = refl

jumps_in_a_callee_are_too_many : c_call unit (codes "h") [] no_objects 0 ≡ CPast
unfolding hidden-the_row-CExpr-2 hidden-the_row-CStmt-0 denote.Hole.Carrier.hidden
jumps_in_a_callee_are_too_many = refl
