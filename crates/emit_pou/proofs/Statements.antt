-- The C of statements does what the statements do, where each variable is reached.
use Rattle.std.proofs.Common.{◌≡◌, refl, sym, ap, subst, ◌∙◌, ℕ, suc, List, [], ◌∷◌, ◌++◌, append_assoc, Bool, true, false, Option, ◌-◌, ◌^◌, ◌≤◌, ◌||◌, arith}
use Rattle.std.specs.Prelude.{ℤ, pos, not, nat_le}
use Rattle.std.proofs.Math.Pow.{pow_mono}
use Rattle.std.proofs.lemmas.Bool.Decides.{nat_tests}
use Rattle.std.specs.List.{flat_map}
use Rattle.plc_base.specs.declared.elem.Elem.{Elem}
use Rattle.plc_base.specs.Numbers.{width, is_signed, FitsBits, Fits}
use Rattle.plc_base.proofs.Elems.{each}
use Rattle.plc_base.proofs.Wrapping.{unsigned_64}
use Rattle.plc_tree.specs.declared.typed.TypeId.{TypeId}
use Rattle.plc_tree.specs.declared.typed.TVar.{TVar}
use Rattle.plc_tree.specs.declared.typed.TPath.{TPath}
use Rattle.plc_tree.specs.declared.typed.TExpr.{TExpr}
use Rattle.plc_tree.specs.declared.typed.TStmt.{TStmt, Empty, Set, If', Case', For', While', Repeat', Exit, Return, Row_of-TStmt, end_of-TStmt, more_of-TStmt, Row_of-TArm, end_of-TArm, more_of-TArm, Row_of-TChoice, end_of-TChoice, more_of-TChoice}
use Rattle.plc_tree.specs.declared.typed.TBody.{TBody}
use Rattle.plc_tree.specs.declared.typed.TBody.TheVariants.{St}
use Rattle.plc_tree.specs.Outcome.{Out, Done, Past, then_do}
use Rattle.plc_tree.specs.Rows.{elem_of}
use Rattle.plc_tree.specs.Store.{Store, write}
use Rattle.plc_tree.specs.Loops.{State, Next, Exits, Returns, for_turns}
use Rattle.plc_tree.specs.Execution.{Env, place, value, holds, found, for_test as test_of, counted, exec, exec_all, exec_arms, exec_choices, exec_list, exec_body}
use Rattle.plc_tree.specs.WellTyped.{counts, IsFor, IsTypedStmt, AreTypedStmts, AreTypedArms, AreTypedChoices, AreTyped, IsTypedBody}
use Rattle.c_tree.specs.declared.tree.CStmt.{CStmt}
use Rattle.c_tree.specs.declared.tree.CStmt.TheVariants as stmt
use Rattle.c_meaning.specs.Outcome.{COut, CDone, c_then}
use Rattle.c_meaning.specs.Values.{CVal}
use Rattle.c_meaning.specs.Objects.{Objects}
use Rattle.c_meaning.specs.Loops.{CStore, CState, CNext, Broken, Jumps, Returned, c_go_on}
use Rattle.c_meaning.specs.Execution.{Frame, Left, c_value, c_exec, c_run, c_body}
use Rattle.c_meaning.proofs.Straight.{Stays, straight}
use Rattle.c_meaning.proofs.MeaningViews.{c_exec-While, then_then, c_run-append, c_run-one}
use Rattle.emit_pou.specs.CNames.{case_name}
use Rattle.emit_pou.specs.Expressions.{leaf, c_expr}
use Rattle.emit_pou.specs.Statements.{set_local, pick, where_picked, small, until, choice, head, for_test, count, c_stmt, c_stmts, c_arms, c_choices, body_stmts}
use Rattle.emit_pou.specs.Like.{Sim, both_done, both_past, Alike, Gives, Held, at_work, SameFlow, LikeState, IsWritten, IsReached}
use Rattle.emit_pou.proofs.Steps.{sim_then, sim_given}
use Rattle.emit_pou.proofs.Calls.{left}
use Rattle.emit_pou.proofs.Expressions.{AreReached, node_is, expr_sim, test_sim}
use Rattle.emit_pou.proofs.Locals.{picked, seeking, heading, set_case, Step, next_state, go_sim}
use Rattle.emit_pou.proofs.Arms.{Skipped, arm_sim, skip_arm, skip_other, other_sim, skip_choice, choice_sim}
use Rattle.emit_pou.proofs.Loops.{while_sim, repeat_sim, for_sim}
use Rattle.emit_pou.proofs.CountedLoops.{Finds, head_sim, test_is, count_sim}

-- 1 is a number of each type that counts
counts_one : (t : Elem) → counts t ≡ true → Fits t (pos 1)
counts_one t h = one_bits (is_signed t) (width t) (wide (counts t) (each (λ t. not (counts t) || nat_le 8 (width t)) refl t) h)
  where
    one_bits : (s : Bool) (w : ℕ) → 8 ≤ w → FitsBits s w (pos 1)
    one_bits false w lt = let more : 2 ^ 8 ≤ 2 ^ w = pow_mono lt in omega (arith, more)
    one_bits true w lt = let le : 7 ≤ w - 1 = omega (arith, lt) in let more : 2 ^ 7 ≤ 2 ^ (w - 1) = pow_mono le in omega (arith, more)

    wide : (c : Bool) → not c || nat_le 8 (width t) ≡ true → c ≡ true → 8 ≤ width t
    wide true k i = grind (arith, nat_tests)
    wide false k i = absurd (let e : false ≡ true = i in cc)

module _ (vs : List TVar) (env : Env) (fr : Frame) (L : Store → Objects → Type 0) (reached : AreReached vs env fr L) where
  -- ---- an assignment

  written_next : (x : Out ℤ) (f : ℤ → Store) (h : Held) (y : COut CState) → Sim (IsWritten L h) (then_do x (λ z r. Done (f z) r)) y → Sim (LikeState L) (then_do x (λ z r. Done (f z, Next) r)) y
  written_next (Done z r) f h _ (both_done w) =
      both_done (record { objects = w.objects; held = h; is = ap (λ (c : CState). c.0) w.is; like = w.like; flow = subst (λ (c : CState). SameFlow Next c.1) (sym w.is) tt })
  written_next Past f h _ both_past = both_past

  -- ---- a FOR

  module _ (v : TPath) (start limit : TExpr) (step : Option TExpr) (typed : IsFor vs v.first start limit step) (body : Store → ℕ → Out State) (code : List CStmt) (goes : Step L body (c_run fr code)) where
    abbrev t : Elem
    t = elem_of typed.ty

    abbrev at : IsReached env fr L (leaf vs v.first) v typed.ty
    at = reached v typed.ty typed.target

    abbrev one : Fits t (pos 1)
    one = counts_one t typed.counts

    abbrev loop : CStmt
    loop = stmt.While (for_test t (leaf vs v.first)) (code ++ count vs t (leaf vs v.first) step limit)

    -- from the first write on
    abbrev from_first : Store → ℕ → Out State
    from_first first r = then_do (found env step limit first r) (λ x k. for_turns (suc k) (test_of env v) body (counted env t v step limit) x first k)

    in_two : (x : Out ℤ) (f : ℤ → Store) → then_do (then_do x (λ z r. Done (f z) r)) from_first ≡ then_do x (λ z r. from_first (f z) r)
    in_two (Done z r) f = refl
    in_two Past f = refl

    loop_sim : (x : ℤ × ℤ) (s : Store) (o : Objects) (h : Held) (n : ℕ) → Finds t x h → L s o
        → Sim (LikeState L) (for_turns (suc n) (test_of env v) body (counted env t v step limit) x s n) (c_run fr (loop ∷ []) (at_work o h) n)
    loop_sim x s o h n finds like =
        subst (Sim (LikeState L) (for_turns (suc n) (test_of env v) body (counted env t v step limit) x s n))
        (sym (c_run-one fr loop (at_work o h) n ∙ c_exec-While fr (for_test t (leaf vs v.first)) (code ++ count vs t (leaf vs v.first) step limit) (at_work o h) n))
        (for_sim fr L (Finds t) (test_of env v) (for_test t (leaf vs v.first)) body code (count vs t (leaf vs v.first) step limit) (counted env t v step limit)
        (test_is vs env fr L reached typed.ty one v at step typed.steps limit typed.ends) goes
        (count_sim vs env fr L reached typed.ty one v at step typed.steps limit typed.ends) (suc n) x s o h n finds like)

    first_sim : (s : Store) (c : CState) (h : Held) (n : ℕ) → IsWritten L h s c → Sim (LikeState L) (from_first s n) (c_go_on c n (c_run fr (head vs t step limit ++ (loop ∷ []))))
    first_sim s c h n r =
        subst (λ d. Sim (LikeState L) (from_first s n) (c_go_on d n (c_run fr (head vs t step limit ++ (loop ∷ []))))) (sym r.is)
        (subst (Sim (LikeState L) (from_first s n)) (sym (c_run-append fr (head vs t step limit) (loop ∷ []) (at_work r.objects h) n))
        (sim_then (found env step limit s n) (c_run fr (head vs t step limit) (at_work r.objects h) n) _ _
        (head_sim vs env fr L reached typed.ty one v at step typed.steps limit typed.ends s r.objects h n r.like)
        (λ x d k p. subst (λ e. Sim (LikeState L) (for_turns (suc k) (test_of env v) body (counted env t v step limit) x s k) (c_go_on e k (c_run fr (loop ∷ [])))) (sym p.is)
        (loop_sim x s r.objects (heading x h) k (record { step = refl; limit = refl; step_fits = p.step_fits; limit_fits = p.limit_fits }) r.like))))

    for_step : Step L (λ s n. then_do (value env start s n) (λ z r. from_first (write env.unit s (place env v) z) r))
        (c_run fr (stmt.SetVar (leaf vs v.first) (c_expr vs start) ∷ (head vs t step limit ++ (loop ∷ []))))
    for_step s o h n like =
        subst (λ y. Sim (LikeState L) y (c_run fr (stmt.SetVar (leaf vs v.first) (c_expr vs start) ∷ (head vs t step limit ++ (loop ∷ []))) (at_work o h) n))
        (in_two (value env start s n) (write env.unit s (place env v)))
        (sim_then (then_do (value env start s n) (λ z r. Done (write env.unit s (place env v) z) r)) (c_exec fr (stmt.SetVar (leaf vs v.first) (c_expr vs start)) (at_work o h) n) from_first _
        (IsReached.set at s o h n (value env start s n) (c_expr vs start) like (expr_sim vs env fr L reached s o h like start typed.ty typed.begins n))
        (λ first c r q. first_sim first c h r q))

  -- ---- a CASE, whose selector was found

  seek : (e : TExpr) (t : TypeId) (s : Store) (o : Objects) (h : Held) (n : ℕ) → Sim (Gives (at_work o h) (Alike (elem_of t))) (value env e s n) (c_value fr (c_expr vs e) (at_work o h) n)
      → (go : ℤ → ℕ → Out State) (cs : List CStmt) → ((z : ℤ) (k : ℕ) → Fits (elem_of t) z → Sim (LikeState L) (go z k) (c_run fr cs (at_work o (picked 0 (seeking z h))) k))
      → Sim (LikeState L) (then_do (value env e s n) go) (c_run fr (set_local case_name (c_expr vs e) ∷ pick 0 ∷ cs) (at_work o h) n)
  seek e t s o h n r go cs f =
      subst (Sim (LikeState L) (then_do (value env e s n) go))
      (sym (ap (λ y. c_then y (λ st k. c_go_on st k (c_run fr (pick 0 ∷ cs)))) (set_case fr o h n (c_expr vs e)) ∙ then_then (c_value fr (c_expr vs e) (at_work o h) n) _ (λ st k. c_go_on st k (c_run fr (pick 0 ∷ cs)))))
      (sim_given (at_work o h) (value env e s n) (c_value fr (c_expr vs e) (at_work o h) n) go _ r
      (λ z w k p. subst (λ y. Sim (LikeState L) (go z k) (c_run fr cs (at_work o (record { pick = pos 0; selector = y; step = h.step; limit = h.limit })) k)) (sym (ap (λ (x : CVal). unsigned_64 x.z) p.is)) (f z k p.fits)))

  -- ---- arms that are left out

  skip_arms : {m : _} (arms : Row_of-TArm m) (code : List CStmt) → Skipped fr (c_arms vs arms ++ (where_picked 0 code ∷ []))
  unfolding c_stmt
  skip_arms end_of-TArm code = skip_other fr code
  skip_arms (more_of-TArm test i body rest) code = skip_arm fr (c_expr vs test) (c_stmts vs body) (c_arms vs rest ++ (where_picked 0 code ∷ [])) (skip_arms rest code)

  skip_choices : (t : Elem) (z : ℤ) (f : Fits t z) {m : _} (arms : Row_of-TChoice m) (code : List CStmt) → Skipped fr (c_choices vs t arms ++ (where_picked 0 code ∷ []))
  unfolding c_stmt
  skip_choices t z f end_of-TChoice code = skip_other fr code
  skip_choices t z f (more_of-TChoice labels i body rest) code =
      let later : List CStmt = c_choices vs t rest ++ (where_picked 0 code ∷ []) in
      subst (Skipped fr) (sym (append_assoc (choice t labels (c_stmts vs body)) (c_choices vs t rest) (where_picked 0 code ∷ []))) (skip_choice fr t z f labels (c_stmts vs body) later (skip_choices t z f rest code))

  -- ---- statements

  mutual
    unfolding c_stmt

    pub stmt_sim : (inside : Bool) (x : TStmt) → IsTypedStmt vs inside x → Step L (exec env x) (c_run fr (c_stmt vs x))
    stmt_sim inside Empty typed s o h n like = both_done (next_state L s o h like)
    stmt_sim inside (Set to from) typed s o h n like =
        subst (Sim (LikeState L) (exec env (Set to from) s n)) (sym (c_run-one fr (stmt.SetVar (leaf vs to.first) (c_expr vs from)) (at_work o h) n))
        (written_next (value env from s n) (write env.unit s (place env to)) h _
        (IsReached.set (reached to typed.ty typed.target) s o h n (value env from s n) (c_expr vs from) like (expr_sim vs env fr L reached s o h like from typed.ty typed.value n)))
    stmt_sim inside (If' i arms k other) typed s o h n like = arms_sim inside arms typed.0 (exec_all env other) (c_stmts vs other) (stmts_sim inside other typed.1) s o h n like
    stmt_sim inside (Case' selector i arms k other) typed s o h n like =
        let p = typed.0.0 in
        subst (λ t. Sim (LikeState L) (exec env (Case' selector i arms k other) s n)
        (c_run fr (set_local case_name (c_expr vs selector) ∷ pick 0 ∷ (c_choices vs t arms ++ (where_picked 0 (c_stmts vs other) ∷ []))) (at_work o h) n)) (sym (node_is vs selector p.ty p.value))
        (seek selector p.ty s o h n (expr_sim vs env fr L reached s o h like selector p.ty p.value n) (λ z r. exec_choices env arms z (exec_all env other) s r) (c_choices vs (elem_of p.ty) arms ++ (where_picked 0 (c_stmts vs other) ∷ []))
        (λ z r f. choices_sim inside (elem_of p.ty) arms typed.0.1 z f (exec_all env other) (c_stmts vs other) (stmts_sim inside other typed.1) s o (seeking z h) r refl like))
    stmt_sim inside (For' v start limit step i body) typed s o h n like =
        subst (λ t. Sim (LikeState L)
        (then_do (value env start s n) (λ z r. let first = write env.unit s (place env v) z in
        then_do (found env step limit first r) (λ x k. for_turns (suc k) (test_of env v) (exec_all env body) (counted env t v step limit) x first k)))
        (c_run fr (stmt.SetVar (leaf vs v.first) (c_expr vs start) ∷ (head vs t step limit ++ (stmt.While (for_test t (leaf vs v.first)) (c_stmts vs body ++ count vs t (leaf vs v.first) step limit) ∷ []))) (at_work o h) n))
        (sym (node_is vs start typed.0.ty typed.0.begins))
        (for_step v start limit step typed.0 (exec_all env body) (c_stmts vs body) (stmts_sim true body typed.1) s o h n like)
    stmt_sim inside (While' test i body) typed s o h n like =
        subst (Sim (LikeState L) (exec env (While' test i body) s n)) (sym (c_run-one fr (stmt.While (c_expr vs test) (c_stmts vs body)) (at_work o h) n ∙ c_exec-While fr (c_expr vs test) (c_stmts vs body) (at_work o h) n))
        (while_sim fr L (holds env test) (c_expr vs test) (exec_all env body) (c_stmts vs body) (λ s o h n like. test_sim vs env fr L reached s o h like test typed.0 n) (stmts_sim true body typed.1) (suc n) s o h n like)
    stmt_sim inside (Repeat' i body test) typed s o h n like =
        let whole : List CStmt = c_stmts vs body ++ (until (c_expr vs test) ∷ []) in
        subst (Sim (LikeState L) (exec env (Repeat' i body test) s n)) (sym (c_run-one fr (stmt.While (small 1) whole) (at_work o h) n ∙ c_exec-While fr (small 1) whole (at_work o h) n))
        (repeat_sim fr L (holds env test) (c_expr vs test) (exec_all env body) (c_stmts vs body) (λ s o h n like. test_sim vs env fr L reached s o h like test typed.1 n) (stmts_sim true body typed.0) (suc n) s o h n like)
    stmt_sim inside Exit typed s o h n like = both_done (record { objects = o; held = h; is = refl; like = like; flow = tt })
    stmt_sim inside Return typed s o h n like = both_done (record { objects = o; held = h; is = refl; like = like; flow = tt })

    pub stmts_sim : (inside : Bool) {m : _} (xs : Row_of-TStmt m) → AreTypedStmts vs inside xs → Step L (exec_all env xs) (c_run fr (c_stmts vs xs))
    stmts_sim inside end_of-TStmt typed s o h n like = both_done (next_state L s o h like)
    stmts_sim inside (more_of-TStmt x xs) typed s o h n like =
        subst (Sim (LikeState L) (exec_all env (more_of-TStmt x xs) s n)) (sym (c_run-append fr (c_stmt vs x) (c_stmts vs xs) (at_work o h) n))
        (sim_then (exec env x s n) (c_run fr (c_stmt vs x) (at_work o h) n) _ _ (stmt_sim inside x typed.0 s o h n like)
        (λ st d k r. go_sim L (exec_all env xs) (c_run fr (c_stmts vs xs)) (stmts_sim inside xs typed.1) st d k r))

    pub arms_sim : (inside : Bool) {m : _} (arms : Row_of-TArm m) → AreTypedArms vs inside arms → (other : Store → ℕ → Out State) (code : List CStmt) → Step L other (c_run fr code)
        → (s : Store) (o : Objects) (h : Held) (n : ℕ) → L s o
        → Sim (LikeState L) (exec_arms env arms other s n) (c_run fr (c_arms vs arms ++ (where_picked 0 code ∷ [])) (at_work o (picked 0 h)) n)
    arms_sim inside end_of-TArm typed other code step s o h n like = other_sim fr L other code step s o h n like
    arms_sim inside (more_of-TArm test i body rest) typed other code step s o h n like =
        arm_sim fr L (holds env test) (c_expr vs test) (exec_all env body) (exec_arms env rest other) (c_stmts vs body) (c_arms vs rest ++ (where_picked 0 code ∷ []))
        (λ s o h n like. test_sim vs env fr L reached s o h like test typed.0 n) (stmts_sim inside body typed.1) (skip_arms rest code) (arms_sim inside rest typed.2 other code step) s o h n like

    pub choices_sim : (inside : Bool) (t : Elem) {m : _} (arms : Row_of-TChoice m) → AreTypedChoices vs inside t arms → (z : ℤ) → Fits t z
        → (other : Store → ℕ → Out State) (code : List CStmt) → Step L other (c_run fr code) → (s : Store) (o : Objects) (h : Held) (n : ℕ) → h.selector ≡ unsigned_64 z → L s o
        → Sim (LikeState L) (exec_choices env arms z other s n) (c_run fr (c_choices vs t arms ++ (where_picked 0 code ∷ [])) (at_work o (picked 0 h)) n)
    choices_sim inside t end_of-TChoice typed z f other code step s o h n e like = other_sim fr L other code step s o h n like
    choices_sim inside t (more_of-TChoice labels i body rest) typed z f other code step s o h n e like =
        let later : List CStmt = c_choices vs t rest ++ (where_picked 0 code ∷ []) in
        subst (λ cs. Sim (LikeState L) (exec_choices env (more_of-TChoice labels i body rest) z other s n) (c_run fr cs (at_work o (picked 0 h)) n)) (sym (append_assoc (choice t labels (c_stmts vs body)) (c_choices vs t rest) (where_picked 0 code ∷ [])))
        (choice_sim fr t z f L (exec_all env body) (exec_choices env rest z other) (c_stmts vs body) later (stmts_sim inside body typed.1) (skip_choices t z f rest code)
        (choices_sim inside t rest typed.2 z f other code step) labels typed.0 s o h n e like)

  pub list_sim : (inside : Bool) (xs : List TStmt) → AreTyped vs inside xs → Step L (exec_list env xs) (c_run fr (flat_map (c_stmt vs) xs))
  list_sim inside [] typed s o h n like = both_done (next_state L s o h like)
  list_sim inside (x ∷ xs) typed s o h n like =
      subst (Sim (LikeState L) (exec_list env (x ∷ xs) s n)) (sym (c_run-append fr (c_stmt vs x) (flat_map (c_stmt vs) xs) (at_work o h) n))
      (sim_then (exec env x s n) (c_run fr (c_stmt vs x) (at_work o h) n) _ _ (stmt_sim inside x typed.0 s o h n like)
      (λ st d m r. go_sim L (exec_list env xs) (c_run fr (flat_map (c_stmt vs) xs)) (list_sim inside xs typed.1) st d m r))

  -- ---- a whole body, and the function that it is the body of

  -- what goes on as a step of the source does stays, since no step of the source jumps
  stays : (x : Out State) (y : COut CState) → Sim (LikeState L) x y → Stays y
  stays _ _ (both_done {a = (s, f)} {b = (c, CNext)} r) = tt
  stays _ _ (both_done {a = (s, f)} {b = (c, Broken)} r) = tt
  stays _ _ (both_done {a = (s, Next)} {b = (c, Jumps l)} r) = absurd r.flow
  stays _ _ (both_done {a = (s, Exits)} {b = (c, Jumps l)} r) = absurd r.flow
  stays _ _ (both_done {a = (s, Returns)} {b = (c, Jumps l)} r) = absurd r.flow
  stays _ _ (both_done {a = (s, f)} {b = (c, Returned v)} r) = tt
  stays _ _ both_past = tt

  pub body_sim : (b : TBody) → IsTypedBody vs b → (s : Store) (o : Objects) (h : Held) (n : ℕ) → L s o
      → Sim (λ t (l : Left). L t l.objects) (exec_body env b s n) (c_then (c_body fr (body_stmts vs b) (at_work o h) n) (λ st k. CDone (left st.0.objects) k))
  body_sim (St xs) typed s o h n like =
      let r = list_sim false xs typed s o h n like in
      subst (λ y. Sim (λ t (l : Left). L t l.objects) (exec_body env (St xs) s n) (c_then y (λ st k. CDone (left st.0.objects) k)))
      (sym (straight fr (flat_map (c_stmt vs) xs) (at_work o h) n (stays _ _ r)))
      (sim_then (exec_list env xs s n) (c_run fr (flat_map (c_stmt vs) xs) (at_work o h) n) _ _ r (λ st d m r. both_done (subst (λ (c : CStore). L st.0 c.objects) (sym r.is) r.like)))
