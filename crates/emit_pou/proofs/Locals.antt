-- The locals of a body at work: what is read from them and what is put into them.
use Rattle.std.proofs.Common.{◌≡◌, refl, sym, ap, subst, ◌∙◌, ℕ, List, [], Bool}
use Rattle.std.specs.Prelude.{ℤ, pos, None, if◌then◌else◌}
use Rattle.std.specs.Ordering.{int_eq}
use Rattle.plc_base.specs.declared.elem.Elem.{Elem}
use Rattle.plc_base.specs.declared.elem.Elem.TheVariants.{Ulint}
use Rattle.plc_base.specs.Numbers.{Fits, wrap}
use Rattle.plc_base.proofs.Wrapping.{unsigned_64, wrap_once, wrap-fits}
use Rattle.plc_tree.specs.Outcome.{Out, Done}
use Rattle.plc_tree.specs.Store.{Store}
use Rattle.plc_tree.specs.Loops.{State, Next, Exits, Returns, go_on}
use Rattle.c_tree.specs.declared.tree.CExpr.{CExpr}
use Rattle.c_tree.specs.declared.tree.CExpr.TheVariants as expr
use Rattle.c_tree.specs.declared.tree.CBin.TheVariants as bin
use Rattle.c_tree.specs.declared.tree.CArg.TheBlock.{hidden-the_row-CSel-0}
use Rattle.c_tree.specs.declared.tree.CStmt.{CStmt}
use Rattle.c_meaning.specs.Outcome.{COut, CDone, c_then}
use Rattle.c_meaning.specs.Values.{CVal, I32, of_type, promoted, convert, c_truth}
use Rattle.c_meaning.specs.Objects.{Objects}
use Rattle.c_meaning.specs.Loops.{CStore, c_store, set_local as with_local, Got, CState, CNext, Broken, Jumps, Returned, is_true, c_go_on}
use Rattle.c_meaning.specs.Execution.{Frame, c_cast, c_value, c_exec, c_run}
use Rattle.c_meaning.proofs.MeaningViews.{c_value-Bin, c_value-Cast, c_exec-If}
use Rattle.emit_pou.specs.CNames.{pick_name, case_name, step_name, limit_name}
use Rattle.emit_pou.specs.Expressions.{plain_path}
use Rattle.emit_pou.specs.Statements.{small, set_local, held, where_picked}
use Rattle.emit_pou.specs.Like.{Sim, both_done, Alike, Gives, Held, at_work, LikeState}

-- ---- what the locals hold, changed at one of them

abbrev pub picked : ℕ → Held → Held
picked k h = record { pick = pos k; selector = h.selector; step = h.step; limit = h.limit }

abbrev pub seeking : ℤ → Held → Held
seeking z h = record { pick = h.pick; selector = unsigned_64 z; step = h.step; limit = h.limit }

abbrev pub heading : ℤ × ℤ → Held → Held
heading found h = record { pick = h.pick; selector = h.selector; step = unsigned_64 found.0; limit = unsigned_64 found.1 }

module _ (fr : Frame) (o : Objects) (h : Held) (n : ℕ) where
  -- ---- they are set

  -- behind the value that one is set to
  abbrev pub set_to : List ℕ → Got CVal → ℕ → COut CState
  set_to name v r = CDone (c_store v.1.objects (with_local v.1.locals name (wrap Ulint v.0.z)), CNext) r

  pub set_case : (e : CExpr) → c_exec fr (set_local case_name e) (at_work o h) n ≡ c_then (c_value fr e (at_work o h) n) (set_to case_name)
  set_case e = refl

  pub set_step : (e : CExpr) → c_exec fr (set_local step_name e) (at_work o h) n ≡ c_then (c_value fr e (at_work o h) n) (set_to step_name)
  set_step e = refl

  pub set_limit : (e : CExpr) → c_exec fr (set_local limit_name e) (at_work o h) n ≡ c_then (c_value fr e (at_work o h) n) (set_to limit_name)
  set_limit e = refl

  -- ---- statements where one is picked

  pub where_is : (k j : ℕ) (b : Bool) (body : List CStmt) → is_true (c_truth (int_eq (convert I32 (pos k)) (convert I32 (pos j)))) ≡ b
      → c_exec fr (where_picked j body) (at_work o (picked k h)) n ≡ (if b then c_run fr body (at_work o (picked k h)) n else CDone (at_work o (picked k h), CNext) n)
  unfolding hidden-the_row-CSel-0 denote.Hole.Carrier.hidden
  where_is k j b body e =
      c_exec-If fr (expr.Bin bin.Eq (expr.Path (plain_path pick_name)) (small j)) body None (at_work o (picked k h)) n
      ∙ ap (λ y. c_then y (λ v r. if is_true v.0 then c_run fr body v.1 r else c_run fr [] v.1 r))
      (c_value-Bin fr bin.Eq (expr.Path (plain_path pick_name)) (small j) (at_work o (picked k h)) n)
      ∙ ap (λ t. if t then c_run fr body (at_work o (picked k h)) n else CDone (at_work o (picked k h), CNext) n) e

  -- ---- they are read as numbers of a type

  read : (t : Elem) (z w : ℤ) → Fits t z → w ≡ unsigned_64 z → c_cast t (of_type (promoted Ulint) w) ≡ of_type (promoted t) z
  read t z w f e = ap (of_type (promoted t)) (ap (wrap t) e ∙ wrap_once t z ∙ wrap-fits t z f)

  module _ (t : Elem) (z : ℤ) (f : Fits t z) where
    as_read : (name : List ℕ) (w : ℤ) → c_value fr (expr.Path (plain_path name)) (at_work o h) n ≡ CDone (of_type (promoted Ulint) w, at_work o h) n → w ≡ unsigned_64 z
        → Sim (Gives (at_work o h) (Alike t)) (Done z n) (c_value fr (held t name) (at_work o h) n)
    as_read name w g e =
        subst (Sim (Gives (at_work o h) (Alike t)) (Done z n)) (sym (c_value-Cast fr t (expr.Path (plain_path name)) (at_work o h) n ∙ ap (λ y. c_then y (λ v r. CDone (c_cast t v.0, v.1) r)) g))
        (both_done (record { value = record { is = read t z w f e; fits = f }; stays = refl }))

    pub case_sim : h.selector ≡ unsigned_64 z → Sim (Gives (at_work o h) (Alike t)) (Done z n) (c_value fr (held t case_name) (at_work o h) n)
    unfolding hidden-the_row-CSel-0 denote.Hole.Carrier.hidden
    case_sim e = as_read case_name h.selector refl e

    pub step_sim : h.step ≡ unsigned_64 z → Sim (Gives (at_work o h) (Alike t)) (Done z n) (c_value fr (held t step_name) (at_work o h) n)
    unfolding hidden-the_row-CSel-0 denote.Hole.Carrier.hidden
    step_sim e = as_read step_name h.step refl e

    pub limit_sim : h.limit ≡ unsigned_64 z → Sim (Gives (at_work o h) (Alike t)) (Done z n) (c_value fr (held t limit_name) (at_work o h) n)
    unfolding hidden-the_row-CSel-0 denote.Hole.Carrier.hidden
    limit_sim e = as_read limit_name h.limit refl e

-- ---- how statements hand on

module _ (L : Store → Objects → Type 0) where
  -- from a store and objects that are like it, a step of the C does what a step of the source does, whatever the locals hold
  abbrev pub Step : (Store → ℕ → Out State) → (CStore → ℕ → COut CState) → Type 0
  Step go goes = (s : Store) (o : Objects) (h : Held) (n : ℕ) → L s o → Sim (LikeState L) (go s n) (goes (at_work o h) n)

  pub next_state : (s : Store) (o : Objects) (h : Held) → L s o → LikeState L (s, Next) (at_work o h, CNext)
  next_state s o h like = record { objects = o; held = h; is = refl; like = like; flow = tt }

  -- a step behind others
  pub go_sim : (go : Store → ℕ → Out State) (goes : CStore → ℕ → COut CState) → Step go goes → (st : State) (c : CState) (n : ℕ) → LikeState L st c
      → Sim (LikeState L) (go_on st n go) (c_go_on c n goes)
  go_sim go goes step (s, Next) (c, CNext) n r = subst (λ d. Sim (LikeState L) (go s n) (goes d n)) (sym r.is) (step s r.objects r.held n r.like)
  go_sim go goes step (s, Exits) (c, Broken) n r = both_done r
  go_sim go goes step (s, Returns) (c, Returned v) n r = both_done r
  go_sim go goes step (s, Next) (c, Broken) n r = absurd r.flow
  go_sim go goes step (s, Next) (c, Jumps l) n r = absurd r.flow
  go_sim go goes step (s, Exits) (c, Jumps l) n r = absurd r.flow
  go_sim go goes step (s, Returns) (c, Jumps l) n r = absurd r.flow
  go_sim go goes step (s, Next) (c, Returned v) n r = absurd r.flow
  go_sim go goes step (s, Exits) (c, CNext) n r = absurd r.flow
  go_sim go goes step (s, Exits) (c, Returned v) n r = absurd r.flow
  go_sim go goes step (s, Returns) (c, CNext) n r = absurd r.flow
  go_sim go goes step (s, Returns) (c, Broken) n r = absurd r.flow
