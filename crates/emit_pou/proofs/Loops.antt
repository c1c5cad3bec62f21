-- Loops: both sides take the same turns.
use Rattle.std.proofs.Common.{◌≡◌, sym, ap, subst, ◌∙◌, ℕ, zero, suc, List, [], ◌∷◌, ◌++◌, Bool, true, false}
use Rattle.std.specs.Prelude.{ℤ, None, if◌then◌else◌}
use Rattle.plc_tree.specs.Outcome.{Out, Done, then_do, with_turn}
use Rattle.plc_tree.specs.Store.{Store}
use Rattle.plc_tree.specs.Loops.{State, Next, Exits, Returns, next_turn, while_turns, repeat_turns, for_turns}
use Rattle.c_tree.specs.declared.tree.CExpr.{CExpr}
use Rattle.c_tree.specs.declared.tree.CStmt.{CStmt}
use Rattle.c_tree.specs.declared.tree.CStmt.TheVariants as stmt
use Rattle.c_meaning.specs.Outcome.{COut, CDone, c_then, c_turn}
use Rattle.c_meaning.specs.Values.{I32, of_type}
use Rattle.c_meaning.specs.Objects.{Objects}
use Rattle.c_meaning.specs.Loops.{CStore, CState, CNext, Broken, Jumps, Returned, is_true, c_go_on, c_next_turn, c_turns}
use Rattle.c_meaning.specs.Execution.{Frame, c_value, c_run}
use Rattle.c_meaning.proofs.MeaningViews.{c_exec-If, then_then, c_run-append, c_run-one}
use Rattle.plc_tree.specs.Execution.{truth}
use Rattle.emit_pou.specs.Statements.{small, until}
use Rattle.emit_pou.specs.Like.{Sim, both_done, both_past, Gives, Held, at_work, LikeState}
use Rattle.emit_pou.proofs.Steps.{sim_then, sim_given, sim_turn}
use Rattle.emit_pou.proofs.Arms.{true_truth}
use Rattle.emit_pou.proofs.Locals.{Step, next_state}

-- behind a turn of a FOR, the store and what was found are like the objects and the locals
pub record IsCounted (L : Store → Objects → Type 0) (Finds : ℤ × ℤ → Held → Type 0) (x : Store × (ℤ × ℤ)) (c : CState) : Type 0 where
  pub objects : Objects
  pub held : Held
  pub is : c ≡ (at_work objects held, CNext)
  pub like : L x.0 objects
  pub finds : Finds x.1 held

module _ (fr : Frame) (L : Store → Objects → Type 0) where
  -- a condition, and the C of it
  abbrev pub Test : (Store → ℕ → Out Bool) → CExpr → Type 0
  Test test e = (s : Store) (o : Objects) (h : Held) (n : ℕ) → L s o → Sim (Gives (at_work o h) (λ b v. is_true v ≡ b)) (test s n) (c_value fr e (at_work o h) n)

  -- behind a turn
  pub next_sim : (go : Store → ℕ → Out State) (goes : CStore → ℕ → COut CState) → Step L go goes → (st : State) (c : CState) (n : ℕ) → LikeState L st c
      → Sim (LikeState L) (next_turn st n go) (c_next_turn c n goes)
  next_sim go goes step (s, Next) (c, CNext) n r = subst (λ d. Sim (LikeState L) (go s n) (goes d n)) (sym r.is) (step s r.objects r.held n r.like)
  next_sim go goes step (s, Exits) (c, Broken) n r = both_done (record { objects = r.objects; held = r.held; is = r.is; like = r.like; flow = tt })
  next_sim go goes step (s, Returns) (c, Returned v) n r = both_done r
  next_sim go goes step (s, Next) (c, Jumps l) n r = absurd r.flow
  next_sim go goes step (s, Exits) (c, Jumps l) n r = absurd r.flow
  next_sim go goes step (s, Returns) (c, Jumps l) n r = absurd r.flow
  next_sim go goes step (s, Next) (c, Broken) n r = absurd r.flow
  next_sim go goes step (s, Next) (c, Returned v) n r = absurd r.flow
  next_sim go goes step (s, Exits) (c, CNext) n r = absurd r.flow
  next_sim go goes step (s, Exits) (c, Returned v) n r = absurd r.flow
  next_sim go goes step (s, Returns) (c, CNext) n r = absurd r.flow
  next_sim go goes step (s, Returns) (c, Broken) n r = absurd r.flow

  -- ---- WHILE

  module _ (test : Store → ℕ → Out Bool) (e : CExpr) (body : Store → ℕ → Out State) (code : List CStmt) (tested : Test test e) (step : Step L body (c_run fr code)) where
    -- a turn, or the end
    turn_sim : (gas : ℕ) → Step L (while_turns gas test body) (c_turns gas (c_value fr e) (c_run fr code)) → (b : Bool) (s : Store) (o : Objects) (h : Held) (r : ℕ) → L s o
        → Sim (LikeState L) (if b then with_turn r (λ k. then_do (body s k) (λ st j. next_turn st j (while_turns gas test body))) else Done (s, Next) r)
        (if b then c_turn r (λ k. c_then (c_run fr code (at_work o h) k) (λ st j. c_next_turn st j (c_turns gas (c_value fr e) (c_run fr code)))) else CDone (at_work o h, CNext) r)
    turn_sim gas more true s o h r like =
        sim_turn r _ _ (λ k. sim_then (body s k) (c_run fr code (at_work o h) k) _ _ (step s o h k like)
        (λ st c j q. next_sim (while_turns gas test body) (c_turns gas (c_value fr e) (c_run fr code)) more st c j q))
    turn_sim gas more false s o h r like = both_done (next_state L s o h like)

    pub while_sim : (gas : ℕ) → Step L (while_turns gas test body) (c_turns gas (c_value fr e) (c_run fr code))
    while_sim zero s o h n like = both_past
    while_sim (suc gas) s o h n like =
        sim_given (at_work o h) (test s n) (c_value fr e (at_work o h) n) _ _ (tested s o h n like)
        (λ b v r is. subst (λ t. Sim (LikeState L) (if b then with_turn r (λ k. then_do (body s k) (λ st j. next_turn st j (while_turns gas test body))) else Done (s, Next) r)
        (if t then c_turn r (λ k. c_then (c_run fr code (at_work o h) k) (λ st j. c_next_turn st j (c_turns gas (c_value fr e) (c_run fr code)))) else CDone (at_work o h, CNext) r)) (sym is)
        (turn_sim gas (while_sim gas) b s o h r like))

  -- ---- REPEAT

  module _ (test : Store → ℕ → Out Bool) (e : CExpr) (body : Store → ℕ → Out State) (code : List CStmt) (tested : Test test e) (step : Step L body (c_run fr code)) where
    abbrev whole : List CStmt
    whole = code ++ (until e ∷ [])

    abbrev turns : ℕ → CStore → ℕ → COut CState
    turns gas = c_turns gas (c_value fr (small 1)) (c_run fr whole)

    abbrev ends_or_goes : ℕ → Store → ℕ → Out State
    ends_or_goes gas t i = then_do (test t i) (λ ends r. if ends then Done (t, Next) r else repeat_turns gas body test t r)

    until_is : (c : CStore) (n : ℕ) → c_run fr (until e ∷ []) c n ≡ c_then (c_value fr e c n) (λ v r. if is_true v.0 then CDone (v.1, Broken) r else CDone (v.1, CNext) r)
    until_is c n = c_run-one fr (until e) c n ∙ c_exec-If fr e (stmt.Break ∷ []) None c n

    ends : (gas : ℕ) → Step L (repeat_turns gas body test) (turns gas) → (b : Bool) (s : Store) (o : Objects) (h : Held) (i : ℕ) → L s o
        → Sim (LikeState L) (if b then Done (s, Next) i else repeat_turns gas body test s i)
        (c_then (if b then CDone (at_work o h, Broken) i else CDone (at_work o h, CNext) i) (λ d k. c_next_turn d k (turns gas)))
    ends gas more true s o h i like = both_done (next_state L s o h like)
    ends gas more false s o h i like = more s o h i like

    -- behind the body
    behind : (gas : ℕ) → Step L (repeat_turns gas body test) (turns gas) → (st : State) (c : CState) (j : ℕ) → LikeState L st c
        → Sim (LikeState L) (next_turn st j (ends_or_goes gas)) (c_then (c_go_on c j (c_run fr (until e ∷ []))) (λ d k. c_next_turn d k (turns gas)))
    behind gas more (s, Next) (c, CNext) j r =
        subst (λ d. Sim (LikeState L) (ends_or_goes gas s j) (c_then (c_run fr (until e ∷ []) d j) (λ d k. c_next_turn d k (turns gas)))) (sym r.is)
        (subst (Sim (LikeState L) (ends_or_goes gas s j))
        (sym (ap (λ y. c_then y (λ d k. c_next_turn d k (turns gas))) (until_is (at_work r.objects r.held) j)
        ∙ then_then (c_value fr e (at_work r.objects r.held) j) _ (λ d k. c_next_turn d k (turns gas))))
        (sim_given (at_work r.objects r.held) (test s j) (c_value fr e (at_work r.objects r.held) j) _ _ (tested s r.objects r.held j r.like)
        (λ b v i is. subst (λ t. Sim (LikeState L) (if b then Done (s, Next) i else repeat_turns gas body test s i)
        (c_then (if t then CDone (at_work r.objects r.held, Broken) i else CDone (at_work r.objects r.held, CNext) i) (λ d k. c_next_turn d k (turns gas)))) (sym is)
        (ends gas more b s r.objects r.held i r.like))))
    behind gas more (s, Exits) (c, Broken) j r = both_done (record { objects = r.objects; held = r.held; is = r.is; like = r.like; flow = tt })
    behind gas more (s, Returns) (c, Returned v) j r = both_done r
    behind gas more (s, Next) (c, Jumps l) j r = absurd r.flow
    behind gas more (s, Exits) (c, Jumps l) j r = absurd r.flow
    behind gas more (s, Returns) (c, Jumps l) j r = absurd r.flow
    behind gas more (s, Next) (c, Broken) j r = absurd r.flow
    behind gas more (s, Next) (c, Returned v) j r = absurd r.flow
    behind gas more (s, Exits) (c, CNext) j r = absurd r.flow
    behind gas more (s, Exits) (c, Returned v) j r = absurd r.flow
    behind gas more (s, Returns) (c, CNext) j r = absurd r.flow
    behind gas more (s, Returns) (c, Broken) j r = absurd r.flow

    pub repeat_sim : (gas : ℕ) → Step L (repeat_turns gas body test) (turns gas)
    repeat_sim zero s o h n like = both_past
    repeat_sim (suc gas) s o h n like =
        sim_turn n _ _ (λ k. subst (Sim (LikeState L) (then_do (body s k) (λ st j. next_turn st j (ends_or_goes gas))))
        (sym (ap (λ y. c_then y (λ st j. c_next_turn st j (turns gas))) (c_run-append fr code (until e ∷ []) (at_work o h) k)
        ∙ then_then (c_run fr code (at_work o h) k) (λ st r. c_go_on st r (c_run fr (until e ∷ []))) (λ st j. c_next_turn st j (turns gas))))
        (sim_then (body s k) (c_run fr code (at_work o h) k) _ _ (step s o h k like) (λ st c j q. behind gas (repeat_sim gas) st c j q)))

  -- ---- FOR: what was found for the test is what the locals hold

  module _ (Finds : ℤ × ℤ → Held → Type 0) (test : ℤ × ℤ → Store → Bool) (e : CExpr) (body : Store → ℕ → Out State) (code tail : List CStmt) (count : Store → ℕ → Out (Store × (ℤ × ℤ)))
      (tested : (found : ℤ × ℤ) (s : Store) (o : Objects) (h : Held) (n : ℕ) → Finds found h → L s o → c_value fr e (at_work o h) n ≡ CDone (of_type I32 (truth (test found s)), at_work o h) n)
      (step : Step L body (c_run fr code)) where
    module _ (counts : (s : Store) (o : Objects) (h : Held) (n : ℕ) → L s o → Sim (IsCounted L Finds) (count s n) (c_run fr tail (at_work o h) n)) where
      abbrev all : List CStmt
      all = code ++ tail

      abbrev all_turns : ℕ → CStore → ℕ → COut CState
      all_turns gas = c_turns gas (c_value fr e) (c_run fr all)

      abbrev on : ℕ → Store → ℕ → Out State
      on gas t i = then_do (count t i) (λ x r. for_turns gas test body count x.1 x.0 r)

      -- with a number of turns left
      abbrev Goes : ℕ → Type 0
      Goes gas = (found : ℤ × ℤ) (s : Store) (o : Objects) (h : Held) (n : ℕ) → Finds found h → L s o → Sim (LikeState L) (for_turns gas test body count found s n) (all_turns gas (at_work o h) n)

      counted_on : (gas : ℕ) → Goes gas → (st : State) (c : CState) (j : ℕ) → LikeState L st c
          → Sim (LikeState L) (next_turn st j (on gas)) (c_then (c_go_on c j (c_run fr tail)) (λ d k. c_next_turn d k (all_turns gas)))
      counted_on gas more (s, Next) (c, CNext) j r =
          subst (λ d. Sim (LikeState L) (on gas s j) (c_then (c_run fr tail d j) (λ d k. c_next_turn d k (all_turns gas)))) (sym r.is)
          (sim_then (count s j) (c_run fr tail (at_work r.objects r.held) j) _ _ (counts s r.objects r.held j r.like)
          (λ x d i q. subst (λ d. Sim (LikeState L) (for_turns gas test body count x.1 x.0 i) (c_next_turn d i (all_turns gas))) (sym q.is) (more x.1 x.0 q.objects q.held i q.finds q.like)))
      counted_on gas more (s, Exits) (c, Broken) j r = both_done (record { objects = r.objects; held = r.held; is = r.is; like = r.like; flow = tt })
      counted_on gas more (s, Returns) (c, Returned v) j r = both_done r
      counted_on gas more (s, Next) (c, Jumps l) j r = absurd r.flow
      counted_on gas more (s, Exits) (c, Jumps l) j r = absurd r.flow
      counted_on gas more (s, Returns) (c, Jumps l) j r = absurd r.flow
      counted_on gas more (s, Next) (c, Broken) j r = absurd r.flow
      counted_on gas more (s, Next) (c, Returned v) j r = absurd r.flow
      counted_on gas more (s, Exits) (c, CNext) j r = absurd r.flow
      counted_on gas more (s, Exits) (c, Returned v) j r = absurd r.flow
      counted_on gas more (s, Returns) (c, CNext) j r = absurd r.flow
      counted_on gas more (s, Returns) (c, Broken) j r = absurd r.flow

      one_turn : (gas : ℕ) → Goes gas → (b : Bool) (s : Store) (o : Objects) (h : Held) (n : ℕ) → L s o
          → Sim (LikeState L) (if b then with_turn n (λ k. then_do (body s k) (λ st j. next_turn st j (on gas))) else Done (s, Next) n)
          (if b then c_turn n (λ k. c_then (c_run fr all (at_work o h) k) (λ st j. c_next_turn st j (all_turns gas))) else CDone (at_work o h, CNext) n)
      one_turn gas more false s o h n like = both_done (next_state L s o h like)
      one_turn gas more true s o h n like =
          sim_turn n _ _ (λ k. subst (Sim (LikeState L) (then_do (body s k) (λ st j. next_turn st j (on gas))))
          (sym (ap (λ y. c_then y (λ st j. c_next_turn st j (all_turns gas))) (c_run-append fr code tail (at_work o h) k)
          ∙ then_then (c_run fr code (at_work o h) k) (λ st r. c_go_on st r (c_run fr tail)) (λ st j. c_next_turn st j (all_turns gas))))
          (sim_then (body s k) (c_run fr code (at_work o h) k) _ _ (step s o h k like) (λ st c j q. counted_on gas more st c j q)))

      pub for_sim : (gas : ℕ) → Goes gas
      for_sim zero found s o h n finds like = both_past
      for_sim (suc gas) found s o h n finds like =
          subst (Sim (LikeState L) (for_turns (suc gas) test body count found s n))
          (sym (ap (λ y. c_then y (λ v r. if is_true v.0 then c_turn r (λ k. c_then (c_run fr all v.1 k) (λ st j. c_next_turn st j (all_turns gas))) else CDone (v.1, CNext) r)) (tested found s o h n finds like)
          ∙ ap (λ t. if t then c_turn n (λ k. c_then (c_run fr all (at_work o h) k) (λ st j. c_next_turn st j (all_turns gas))) else CDone (at_work o h, CNext) n) (true_truth (test found s))))
          (one_turn gas (for_sim gas) (test found s) s o h n like)
