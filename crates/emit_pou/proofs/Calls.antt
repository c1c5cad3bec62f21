-- Calls of functions by their names.
use Rattle.std.proofs.Common.{◌≡◌, refl, ap, ◌∙◌, ℕ, List, [], ◌∷◌, true, false}
use Rattle.std.specs.Prelude.{if◌then◌else◌, None}
use Rattle.std.specs.Str.{bytes_eq}
use Rattle.c_tree.specs.declared.tree.CItem.{CItem}
use Rattle.c_tree.specs.declared.tree.CParam.{CParam}
use Rattle.c_tree.specs.declared.tree.CArg.{CArg}
use Rattle.c_tree.specs.declared.tree.CStmt.TheVariants as stmt
use Rattle.plc_tree.specs.Outcome.{Out}
use Rattle.c_meaning.specs.Outcome.{COut, CDone, CPast, Undefined, c_then}
use Rattle.c_meaning.specs.Objects.{Objects}
use Rattle.c_meaning.specs.Items.{Function}
use Rattle.c_meaning.specs.Execution.{Passed, Left, Frame, Got, CState, c_store, c_next, c_args, c_walk, c_back, c_jumps, bound_locals, function_frame, call_of, function_run}
use Rattle.emit_pou.specs.Like.{Sim, both_done}
use Rattle.emit_pou.proofs.Program.{void}
use Rattle.emit_pou.proofs.Steps.{sim_after}

module _ (items : List CItem) (f : Function) (above : List Function) (name : List ℕ) (xs : List Passed) (o : Objects) (n : ℕ) where
  pub called : bytes_eq f.name name ≡ true → call_of items (f ∷ above) name xs o n ≡ function_run items (call_of items above) f xs o n
  called e = ap (λ b. if b then function_run items (call_of items above) f xs o n else call_of items above name xs o n) e

  pub passed_by : bytes_eq f.name name ≡ false → call_of items (f ∷ above) name xs o n ≡ call_of items above name xs o n
  passed_by e = ap (λ b. if b then function_run items (call_of items above) f xs o n else call_of items above name xs o n) e

abbrev pub left : Objects → Left
left o = record { objects = o; result = None }

-- a call of another function, whose result is dropped
abbrev pub drops : COut Left → COut Left
drops y = c_then y (λ l k. CDone (left l.objects) k)

module _ (items : List CItem) (call : List ℕ → List Passed → Objects → ℕ → COut Left) (name : List ℕ) (params : List CParam) (xs : List Passed) (o : Objects) (n : ℕ) where
  -- one whose body is a call
  pub hands_on : (callee : List ℕ) (args : List CArg) (ys : List Passed)
      → c_args (function_frame items call (void name params (stmt.Call callee args ∷ [])) xs) args (c_store o (bound_locals params xs)) n ≡ CDone (ys, c_store o (bound_locals params xs)) n
      → function_run items call (void name params (stmt.Call callee args ∷ [])) xs o n ≡ drops (call callee ys o n)
  hands_on callee args ys e = ap (λ a. c_then (c_then (c_then (c_then a calls) walks) backs) ends) e ∙ together (call callee ys o n)
    where
      frame : Frame
      frame = function_frame items call (void name params (stmt.Call callee args ∷ [])) xs

      calls : Got (List Passed) → ℕ → COut CState
      calls zs r = c_then (call callee zs.0 zs.1.objects r) (λ l k. c_next zs.1 l.objects k)

      walks : CState → ℕ → COut CState
      walks = c_walk frame []

      backs : CState → ℕ → COut CState
      backs st r = c_back st r (c_jumps n (c_walk frame (stmt.Call callee args ∷ [])))

      ends : CState → ℕ → COut Left
      ends st k = CDone (left st.0.objects) k

      together : (y : COut Left) → c_then (c_then (c_then (c_then y (λ l k. c_next (c_store o (bound_locals params xs)) l.objects k)) walks) backs) ends ≡ drops y
      together (CDone l k) = refl
      together CPast = refl
      together (Undefined w) = refl

-- what a source's step does, a call does too where it hands on to one that does
pub drops_sim : {A : Type 0} (P : A → Objects → Type 0) (x : Out A) (y : COut Left) → Sim (λ a (l : Left). P a l.objects) x y → Sim (λ a (l : Left). P a l.objects) x (drops y)
drops_sim P x y r = sim_after x y _ r (λ a l n p. both_done p)
