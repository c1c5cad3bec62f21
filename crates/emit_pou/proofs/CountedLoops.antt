-- The parts of a FOR: step and limit are found, the variable is tested and counted on.
use Rattle.std.proofs.Common.{◌≡◌, refl, sym, ap, subst, ◌∙◌, ℕ, List, [], ◌∷◌, Bool, true, false, Option, Some, None}
use Rattle.std.specs.Prelude.{ℤ, pos, ◌+ℤ◌, int_le, not, ◌&&◌, ◌||◌, if◌then◌else◌}
use Rattle.plc_base.specs.declared.elem.Elem.{Elem}
use Rattle.plc_base.specs.declared.elem.Elem.TheVariants.{Ulint, Bool as Boolean}
use Rattle.plc_base.specs.Numbers.{Fits, wrap}
use Rattle.plc_base.proofs.Wrapping.{unsigned_64, fits-zero}
use Rattle.plc_tree.specs.declared.typed.TypeId.{TypeId}
use Rattle.plc_tree.specs.declared.typed.TVar.{TVar}
use Rattle.plc_tree.specs.declared.typed.TPath.{TPath}
use Rattle.plc_tree.specs.declared.typed.TExpr.{TExpr}
use Rattle.plc_tree.specs.Outcome.{Out, Done, Past, then_do}
use Rattle.plc_tree.specs.Rows.{elem_of}
use Rattle.plc_tree.specs.Store.{Store, see, write}
use Rattle.plc_tree.specs.Execution.{Env, truth, place, value, step_value, found, is_within, for_test as test_of, counted}
use Rattle.plc_tree.specs.WellTyped.{HasType, IsStep}
use Rattle.c_tree.specs.declared.tree.CExpr.{CExpr}
use Rattle.c_tree.specs.declared.tree.CExpr.TheVariants as expr
use Rattle.c_tree.specs.declared.tree.CBin.TheVariants as bin
use Rattle.c_tree.specs.declared.tree.CStmt.TheVariants as stmt
use Rattle.c_meaning.specs.Outcome.{CDone, c_then}
use Rattle.c_meaning.specs.Values.{I32, of_type}
use Rattle.c_meaning.specs.Objects.{Objects}
use Rattle.c_meaning.specs.Loops.{CState, CNext, c_go_on}
use Rattle.c_meaning.specs.Execution.{Frame, c_value, c_exec, c_run}
use Rattle.c_meaning.proofs.MeaningViews.{then_then}
use Rattle.emit_pou.specs.CNames.{step_name, limit_name}
use Rattle.emit_pou.specs.Expressions.{leaf, literal, in_64_bits, c_expr}
use Rattle.emit_pou.specs.Statements.{set_local, held, c_step, head, half, for_test, count}
use Rattle.emit_pou.specs.Like.{Sim, both_done, Alike, Gives, Held, at_work, IsWritten, IsReached}
use Rattle.emit_pou.proofs.Steps.{sim_then, sim_given, sim_map}
use Rattle.emit_pou.proofs.Operators.{add_sim, and_sim, or_sim, compare_sim}
use Rattle.emit_pou.proofs.Expressions.{AreReached, literal_sim, expr_sim}
use Rattle.emit_pou.proofs.Loops.{IsCounted}
use Rattle.emit_pou.proofs.Arms.{and_truth, or_truth, truth_value}
use Rattle.emit_pou.proofs.Locals.{heading, set_step, set_limit, step_sim, limit_sim}

-- what the locals hold for the test
pub record Finds (t : Elem) (x : ℤ × ℤ) (h : Held) : Type 0 where
  pub step : h.step ≡ unsigned_64 x.0
  pub limit : h.limit ≡ unsigned_64 x.1
  pub step_fits : Fits t x.0
  pub limit_fits : Fits t x.1

one_of : (up : Bool) (a b : Bool) → (up && a) || (not up && b) ≡ (if up then a else b)
one_of true true b = refl
one_of true false b = refl
one_of false a true = refl
one_of false a false = refl

module _ (vs : List TVar) (env : Env) (fr : Frame) (L : Store → Objects → Type 0) (reached : AreReached vs env fr L)
    (ty : TypeId) (one : Fits (elem_of ty) (pos 1)) (v : TPath) (at : IsReached env fr L (leaf vs v.first) v ty)
    (step : Option TExpr) (step_typed : IsStep vs step ty) (limit : TExpr) (limit_typed : HasType vs limit ty) where
  abbrev t : Elem
  t = elem_of ty

  step_value_sim : (st : Option TExpr) → IsStep vs st ty → (s : Store) (o : Objects) (h : Held) (n : ℕ) → L s o → Sim (Gives (at_work o h) (Alike t)) (step_value env st s n) (c_value fr (c_step vs t st) (at_work o h) n)
  step_value_sim None typed s o h n like = literal_sim fr (at_work o h) t (pos 1) n one
  step_value_sim (Some e) typed s o h n like = expr_sim vs env fr L reached s o h like e ty typed n

  -- what is found stands in the locals
  pub record IsHeaded (o : Objects) (h : Held) (x : ℤ × ℤ) (c : CState) : Type 0 where
    pub is : c ≡ (at_work o (heading x h), CNext)
    pub step_fits : Fits t x.0
    pub limit_fits : Fits t x.1

  pub head_sim : (s : Store) (o : Objects) (h : Held) (n : ℕ) → L s o → Sim (IsHeaded o h) (found env step limit s n) (c_run fr (head vs t step limit) (at_work o h) n)
  head_sim s o h n like =
      subst (Sim (IsHeaded o h) (found env step limit s n))
      (sym (ap (λ y. c_then y (λ st r. c_go_on st r (c_run fr (set_local limit_name (c_expr vs limit) ∷ [])))) (set_step fr o h n (c_step vs t step))
      ∙ then_then (c_value fr (c_step vs t step) (at_work o h) n) _ (λ st r. c_go_on st r (c_run fr (set_local limit_name (c_expr vs limit) ∷ [])))))
      (sim_given (at_work o h) (step_value env step s n) (c_value fr (c_step vs t step) (at_work o h) n) _ _ (step_value_sim step step_typed s o h n like)
      (λ a v' r p. let h' : Held = record { pick = h.pick; selector = h.selector; step = wrap Ulint v'.z; limit = h.limit } in
      subst (Sim (IsHeaded o h) (then_do (value env limit s r) (λ b k. Done (a, b) k)))
      (sym (ap (λ y. c_then y (λ st k. c_go_on st k (c_run fr []))) (set_limit fr o h' r (c_expr vs limit))
      ∙ then_then (c_value fr (c_expr vs limit) (at_work o h') r) _ (λ st k. c_go_on st k (c_run fr []))))
      (sim_given (at_work o h') (value env limit s r) (c_value fr (c_expr vs limit) (at_work o h') r) _ _ (expr_sim vs env fr L reached s o h' like limit ty limit_typed r)
      (λ b w k q. both_done (record {
        is = λ i. (at_work o (record { pick = h.pick; selector = h.selector; step = wrap Ulint (p.is i).z; limit = wrap Ulint (q.is i).z }), CNext);
        step_fits = p.fits;
        limit_fits = q.fits;
      })))))

  -- ---- the test

  pub test_is : (x : ℤ × ℤ) (s : Store) (o : Objects) (h : Held) (n : ℕ) → Finds t x h → L s o
      → c_value fr (for_test t (leaf vs v.first)) (at_work o h) n ≡ CDone (of_type I32 (truth (test_of env v x s)), at_work o h) n
  test_is x s o h n finds like =
      let c = at_work o h in
      let seen = see env.unit s (place env v) in
      let up : (m : ℕ) → Sim (Gives c (Alike Boolean)) (Done (truth (int_le (pos 0) x.0)) m) (c_value fr (expr.Bin bin.Ge (held t step_name) (literal t (pos 0))) c m) =
      λ m. compare_sim fr c bin.Ge (λ a b. int_le b a) (λ v q k. refl) t (Done x.0 m) (λ k. Done (pos 0) k) (held t step_name) (literal t (pos 0)) m
      (step_sim fr o h m t x.0 finds.step_fits finds.step) (λ k. literal_sim fr c t (pos 0) k (fits-zero t)) in
      let down : (m : ℕ) → Sim (Gives c (Alike Boolean)) (Done (truth (not (int_le (pos 0) x.0))) m) (c_value fr (expr.Bin bin.Lt (held t step_name) (literal t (pos 0))) c m) =
      λ m. compare_sim fr c bin.Lt (λ a b. not (int_le b a)) (λ v q k. refl) t (Done x.0 m) (λ k. Done (pos 0) k) (held t step_name) (literal t (pos 0)) m
      (step_sim fr o h m t x.0 finds.step_fits finds.step) (λ k. literal_sim fr c t (pos 0) k (fits-zero t)) in
      let below : (m : ℕ) → Sim (Gives c (Alike Boolean)) (Done (truth (int_le seen x.1)) m) (c_value fr (expr.Bin bin.Le (expr.GetVar (leaf vs v.first)) (held t limit_name)) c m) =
      λ m. compare_sim fr c bin.Le (λ a b. int_le a b) (λ v q k. refl) t (Done seen m) (λ k. Done x.1 k) (expr.GetVar (leaf vs v.first)) (held t limit_name) m
      (IsReached.get at s o h m like) (λ k. limit_sim fr o h k t x.1 finds.limit_fits finds.limit) in
      let above : (m : ℕ) → Sim (Gives c (Alike Boolean)) (Done (truth (int_le x.1 seen)) m) (c_value fr (expr.Bin bin.Ge (expr.GetVar (leaf vs v.first)) (held t limit_name)) c m) =
      λ m. compare_sim fr c bin.Ge (λ a b. int_le b a) (λ v q k. refl) t (Done seen m) (λ k. Done x.1 k) (expr.GetVar (leaf vs v.first)) (held t limit_name) m
      (IsReached.get at s o h m like) (λ k. limit_sim fr o h k t x.1 finds.limit_fits finds.limit) in
      let first : (m : ℕ) → Sim (Gives c (Alike Boolean)) (Done (truth (int_le (pos 0) x.0 && int_le seen x.1)) m) (c_value fr (half t (leaf vs v.first) bin.Ge bin.Le) c m) =
      λ m. subst (λ w. Sim (Gives c (Alike Boolean)) (Done w m) (c_value fr (half t (leaf vs v.first) bin.Ge bin.Le) c m)) (and_truth (int_le (pos 0) x.0) (int_le seen x.1))
      (and_sim fr c Boolean refl (Done (truth (int_le (pos 0) x.0)) m) (λ k. Done (truth (int_le seen x.1)) k) _ _ m (up m) below) in
      let second : (m : ℕ) → Sim (Gives c (Alike Boolean)) (Done (truth (not (int_le (pos 0) x.0) && int_le x.1 seen)) m) (c_value fr (half t (leaf vs v.first) bin.Lt bin.Ge) c m) =
      λ m. subst (λ w. Sim (Gives c (Alike Boolean)) (Done w m) (c_value fr (half t (leaf vs v.first) bin.Lt bin.Ge) c m)) (and_truth (not (int_le (pos 0) x.0)) (int_le x.1 seen))
      (and_sim fr c Boolean refl (Done (truth (not (int_le (pos 0) x.0))) m) (λ k. Done (truth (int_le x.1 seen)) k) _ _ m (down m) above) in
      truth_value c (is_within x seen) n (c_value fr (for_test t (leaf vs v.first)) c n)
      (subst (λ w. Sim (Gives c (Alike Boolean)) (Done w n) (c_value fr (for_test t (leaf vs v.first)) c n))
      (or_truth (int_le (pos 0) x.0 && int_le seen x.1) (not (int_le (pos 0) x.0) && int_le x.1 seen) ∙ ap truth (one_of (int_le (pos 0) x.0) (int_le seen x.1) (int_le x.1 seen)))
      (or_sim fr c Boolean refl (Done (truth (int_le (pos 0) x.0 && int_le seen x.1)) n) (λ k. Done (truth (not (int_le (pos 0) x.0) && int_le x.1 seen)) k) _ _ n (first n) second))

  -- ---- behind a turn

  abbrev IsOn : Store × (ℤ × ℤ) → CState → Type 0
  IsOn x c = IsCounted L (Finds t) x c

  -- the step and the limit behind a write
  head_on : (s : Store) (c : CState) (h : Held) (n : ℕ) → IsWritten L h s c → Sim IsOn (then_do (found env step limit s n) (λ x k. Done (s, x) k)) (c_go_on c n (c_run fr (head vs t step limit)))
  head_on s c h n r =
      subst (λ d. Sim IsOn (then_do (found env step limit s n) (λ x k. Done (s, x) k)) (c_go_on d n (c_run fr (head vs t step limit)))) (sym r.is)
      (sim_map (found env step limit s n) (c_run fr (head vs t step limit) (at_work r.objects h) n) (λ x. (s, x)) (head_sim s r.objects h n r.like)
      (λ x d q. record { objects = r.objects; held = heading x h; is = q.is; like = r.like; finds = record { step = refl; limit = refl; step_fits = q.step_fits; limit_fits = q.limit_fits } }))

  pub count_sim : (s : Store) (o : Objects) (h : Held) (n : ℕ) → L s o → Sim IsOn (counted env t v step limit s n) (c_run fr (count vs t (leaf vs v.first) step limit) (at_work o h) n)
  count_sim s o h n like =
      subst (λ y. Sim IsOn y (c_run fr (count vs t (leaf vs v.first) step limit) (at_work o h) n)) (in_steps (step_value env step s n))
      (sim_then (then_do (then_do (step_value env step s n) (λ a m. Done (wrap t (seen +ℤ a)) m)) (λ z r. Done (write env.unit s (place env v) z) r))
      (c_exec fr (stmt.SetVar (leaf vs v.first) sum) (at_work o h) n) (λ next r. then_do (found env step limit next r) (λ y k. Done (next, y) k)) _ written (λ next c r q. head_on next c h r q))
    where
      seen : ℤ
      seen = see env.unit s (place env v)

      sum : CExpr
      sum = in_64_bits t (expr.Bin bin.Add) (expr.GetVar (leaf vs v.first)) (c_step vs t step)

      written : Sim (IsWritten L h) (then_do (then_do (step_value env step s n) (λ a m. Done (wrap t (seen +ℤ a)) m)) (λ z r. Done (write env.unit s (place env v) z) r)) (c_exec fr (stmt.SetVar (leaf vs v.first) sum) (at_work o h) n)
      written =
          IsReached.set at s o h n (then_do (step_value env step s n) (λ a m. Done (wrap t (seen +ℤ a)) m)) sum like
          (add_sim fr (at_work o h) t (Done seen n) (λ m. step_value env step s m) (expr.GetVar (leaf vs v.first)) (c_step vs t step) n (IsReached.get at s o h n like)
          (λ m. step_value_sim step step_typed s o h m like))

      goal : Out ℤ → Out (Store × (ℤ × ℤ))
      goal x = then_do x (λ a r. let next = write env.unit s (place env v) (wrap t (seen +ℤ a)) in then_do (found env step limit next r) (λ y k. Done (next, y) k))

      in_steps : (x : Out ℤ)
          → then_do (then_do (then_do x (λ a m. Done (wrap t (seen +ℤ a)) m)) (λ z r. Done (write env.unit s (place env v) z) r)) (λ next r. then_do (found env step limit next r) (λ y k. Done (next, y) k)) ≡ goal x
      in_steps (Done a r) = refl
      in_steps Past = refl
