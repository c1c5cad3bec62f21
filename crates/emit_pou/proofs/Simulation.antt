-- The start and each scan, on both sides.
use Rattle.std.proofs.Common.{◌≡◌, refl, sym, ap, subst, ◌∙◌, ℕ, ◌<◌, List, [], ◌∷◌}
use Rattle.std.specs.Prelude.{ℤ, pos, reverse}
use Rattle.plc_base.specs.declared.elem.Elem.TheVariants.{Ulint}
use Rattle.plc_base.specs.Numbers.{wrap}
use Rattle.plc_base.proofs.Bytes.{bytes_eq-after, bytes_eq-self}
use Rattle.plc_tree.specs.declared.typed.TUnit.{TUnit}
use Rattle.plc_tree.specs.declared.typed.TResource.{TResource}
use Rattle.plc_tree.specs.declared.typed.TInst.{TInst}
use Rattle.plc_tree.specs.Outcome.{Out, Done, Past, then_do}
use Rattle.plc_tree.specs.Store.{Store}
use Rattle.plc_tree.specs.Execution.{exec_body}
use Rattle.plc_tree.specs.Rows.{object_name}
use Rattle.plc_tree.specs.Schedule.{interval_of}
use Rattle.plc_tree.specs.Run.{scan, run_insts, run_pou}
use Rattle.c_tree.specs.declared.tree.CItem.{CItem}
use Rattle.c_tree.specs.declared.tree.CArg.{CArg}
use Rattle.c_tree.specs.declared.tree.CArg.TheVariants as arg
use Rattle.c_tree.specs.declared.tree.CArg.TheBlock.{hidden-the_row-CSel-0}
use Rattle.c_tree.specs.declared.tree.CExpr.TheVariants as expr
use Rattle.c_meaning.specs.Outcome.{COut, CDone, c_then}
use Rattle.c_meaning.specs.Values.{CVal, of_type, promoted, U64}
use Rattle.c_meaning.specs.Objects.{Objects, Named, Place, no_objects}
use Rattle.c_meaning.specs.Items.{Function}
use Rattle.c_meaning.specs.Execution.{ByValue, ByPlace, Left, Frame, CStore, c_store, c_args, c_body, bound_locals, function_frame, call_of}
use Rattle.c_meaning.proofs.Straight.{Stays, straight}
use Rattle.c_meaning.specs.Run.{c_call, c_cold, c_scan, at_moment, ticked}
use Rattle.emit_pou.specs.CNames.{init_name, body_name, config_init_name, config_run_name, tick_name}
use Rattle.emit_pou.specs.Emitted.{c_unit, name_of, program_name, init_stmts, tick}
use Rattle.emit_pou.specs.Expressions.{plain_path}
use Rattle.emit_pou.specs.Statements.{body_stmts}
use Rattle.emit_pou.specs.Single.{Single}
use Rattle.emit_pou.specs.Like.{Sim, both_done, Held, at_work}
use Rattle.emit_pou.proofs.Schedules.{runs_one}
use Rattle.emit_pou.proofs.Program.{program_is}
use Rattle.emit_pou.proofs.Functions as parts
use Rattle.emit_pou.proofs.Functions.{six_functions, frame, init_frame, env_at}
use Rattle.emit_pou.proofs.GoodRows.{all_found}
use Rattle.emit_pou.proofs.Leaves.{names}
use Rattle.emit_pou.proofs.Initials.{started, init_run}
use Rattle.plc_tree.specs.declared.typed.TVar.{TVar}
use Rattle.plc_tree.specs.WellTyped.{AreFit}
use Rattle.c_meaning.specs.Names.{Apart}
use Rattle.emit_pou.proofs.Endings.{start_no_body, run_no_body, config_init_no_body, config_run_no_body, config_init_no_run}
use Rattle.emit_pou.proofs.Calls.{called, passed_by, left, drops, hands_on, drops_sim}
use Rattle.emit_pou.proofs.Steps.{sim_after}

then_end : {A : Type 0} (y : Out A) → then_do y (λ a k. Done a k) ≡ y
then_end (Done a n) = refl
then_end Past = refl

-- ---- what is handed on

-- the address of an object
instance_handed : (fr : Frame) (name : List ℕ) (s : CStore) (n : ℕ) → c_args fr (arg.Address (plain_path name) ∷ []) s n ≡ CDone (ByPlace (Named name ∷ []) ∷ [], s) n
unfolding hidden-the_row-CSel-0 denote.Hole.Carrier.hidden
instance_handed fr name s n = refl

-- the number of the tick, which is converted to the type of the parameter
abbrev handed : CVal → CVal
handed v = of_type (promoted Ulint) (wrap Ulint v.z)

tick_handed : (fr : Frame) (v : CVal) (o : Objects) (n : ℕ)
    → c_args fr (arg.Value (expr.Path (plain_path tick_name)) ∷ []) (c_store o (bound_locals (tick ∷ []) (ByValue v ∷ []))) n
    ≡ CDone (ByValue (handed v) ∷ [], c_store o (bound_locals (tick ∷ []) (ByValue v ∷ []))) n
unfolding hidden-the_row-CSel-0 denote.Hole.Carrier.hidden
tick_handed fr v o n = refl

module _ (x : Single) where
  -- ---- the parts of the unit

  abbrev u : TUnit
  u = parts.u x

  abbrev r : TResource
  r = parts.r x

  abbrev i : TInst
  i = parts.i x

  abbrev items : List CItem
  items = parts.items x

  abbrev pou_init : Function
  pou_init = parts.pou_init x

  abbrev pou_body : Function
  pou_body = parts.pou_body x

  abbrev start : Function
  start = parts.start x

  abbrev run : Function
  run = parts.run x

  abbrev config_init : Function
  config_init = parts.config_init x

  abbrev config_run : Function
  config_run = parts.config_run x

  abbrev two : List Function
  two = parts.two x

  abbrev four : List Function
  four = parts.four x

  abbrev six : List Function
  six = parts.six x

  abbrev there : Place
  there = parts.there x

  abbrev vs : List TVar
  vs = x.pou.vars

  -- ---- the start sets the variables of the program

  abbrev self_arg : List CArg
  self_arg = arg.Address (plain_path (object_name r i)) ∷ []

  module _ (apart : Apart (names vs)) (fit : AreFit vs) where
    pou_init_done : (o : Objects) (n : ℕ) → call_of items two pou_init.name (ByPlace there ∷ []) o n ≡ CDone (left (started x vs o)) n
    pou_init_done o n =
        let run = init_run x vs (all_found vs apart) fit o n in
        passed_by items pou_body (pou_init ∷ []) pou_init.name (ByPlace there ∷ []) o n (bytes_eq-after x.pou.name _ _)
        ∙ called items pou_init [] pou_init.name (ByPlace there ∷ []) o n (bytes_eq-self pou_init.name)
        ∙ ap (λ y. c_then y (λ st k. CDone (left st.0.objects) k)) (straight (init_frame x) (init_stmts x.pou) (c_store o []) n (subst Stays (sym run) tt) ∙ run)

    start_done : (o : Objects) (n : ℕ) → call_of items four start.name [] o n ≡ CDone (left (started x vs o)) n
    start_done o n =
        passed_by items run (start ∷ two) start.name [] o n (bytes_eq-after r.name _ _)
        ∙ called items start two start.name [] o n (bytes_eq-self start.name)
        ∙ hands_on items (call_of items two) start.name [] [] o n (init_name (program_name u i)) self_arg (ByPlace there ∷ []) (instance_handed (function_frame items (call_of items two) start []) (object_name r i) (c_store o []) n)
        ∙ ap drops (ap (λ p. call_of items two (init_name (name_of p)) (ByPlace there ∷ []) o n) (program_is x) ∙ pou_init_done o n)

    config_init_done : (o : Objects) (n : ℕ) → call_of items six config_init_name [] o n ≡ CDone (left (started x vs o)) n
    config_init_done o n =
        passed_by items config_run (config_init ∷ four) config_init_name [] o n refl
        ∙ called items config_init four config_init_name [] o n refl
        ∙ hands_on items (call_of items four) config_init_name [] [] o n start.name [] [] refl
        ∙ ap drops (start_done o n)

    pub c_init_done : (n : ℕ) → c_cold (c_unit u) n ≡ CDone (started x vs no_objects) n
    c_init_done n =
        ap (λ fs. c_then (call_of items (reverse fs) config_init_name [] no_objects n) (λ l k. CDone l.objects k)) (six_functions x)
        ∙ ap (λ y. c_then y (λ l k. CDone l.objects k)) (config_init_done no_objects n)

  -- ---- a scan does what the program's body does

  -- what the locals hold at the start
  abbrev pub zeros : Held
  zeros = record { pick = pos 0; selector = pos 0; step = pos 0; limit = pos 0 }

  abbrev pub body_run : Objects → ℕ → COut Left
  body_run o n = c_then (c_body (frame x) (body_stmts vs x.pou.body) (at_work o zeros) n) (λ st k. CDone (left st.0.objects) k)

  pub scan_is : (t : ℕ) (m : ℤ) (s : Store) (n : ℕ) → 0 < interval_of x.task → scan u t m s n ≡ exec_body (env_at x m) x.pou.body s n
  scan_is t m s n h =
      ap (λ is. run_insts u m is s n) (runs_one x t h)
      ∙ ap (λ p. then_do (run_pou (env_at x m) p s n) (λ t k. Done t k)) (program_is x)
      ∙ then_end (exec_body (env_at x m) x.pou.body s n)

  module _ (P : Store → Objects → Type 0) (y : Out Store) where
    -- a call of the C ends as the source does
    abbrev Ends : COut Left → Type 0
    Ends z = Sim (λ s (l : Left). P s l.objects) y z

    same : {z w : COut Left} → z ≡ w → Ends w → Ends z
    same e h = subst Ends (sym e) h

    body_sim : (o : Objects) (n : ℕ) → Ends (body_run o n) → Ends (call_of items (start ∷ two) (body_name (program_name u i)) (ByPlace there ∷ []) o n)
    body_sim o n h =
        same (ap (λ p. call_of items (start ∷ two) (body_name (name_of p)) (ByPlace there ∷ []) o n) (program_is x))
        (same (passed_by items start two pou_body.name (ByPlace there ∷ []) o n (start_no_body r.name x.pou.name))
        (same (called items pou_body (pou_init ∷ []) pou_body.name (ByPlace there ∷ []) o n (bytes_eq-self pou_body.name)) h))

    -- the body alone, called from outside
    pub called_body_sim : (o : Objects) (n : ℕ) → Ends (body_run o n) → Ends (c_call (c_unit u) (body_name x.pou.name) (ByPlace there ∷ []) o n)
    called_body_sim o n h =
        same (ap (λ fs. call_of items (reverse fs) (body_name x.pou.name) (ByPlace there ∷ []) o n) (six_functions x))
        (same (passed_by items config_run (config_init ∷ four) (body_name x.pou.name) (ByPlace there ∷ []) o n (config_run_no_body x.pou.name))
        (same (passed_by items config_init four (body_name x.pou.name) (ByPlace there ∷ []) o n (config_init_no_body x.pou.name))
        (same (passed_by items run (start ∷ two) (body_name x.pou.name) (ByPlace there ∷ []) o n (run_no_body r.name x.pou.name))
        (same (passed_by items start two (body_name x.pou.name) (ByPlace there ∷ []) o n (start_no_body r.name x.pou.name))
        (same (called items pou_body (pou_init ∷ []) pou_body.name (ByPlace there ∷ []) o n (bytes_eq-self pou_body.name)) h)))))

    run_sim : (v : CVal) (o : Objects) (n : ℕ) → Ends (body_run o n) → Ends (call_of items four run.name (ByValue v ∷ []) o n)
    run_sim v o n h =
        same (called items run (start ∷ two) run.name (ByValue v ∷ []) o n (bytes_eq-self run.name))
        (same (hands_on items (call_of items (start ∷ two)) run.name (tick ∷ []) (ByValue v ∷ []) o n (body_name (program_name u i)) self_arg (ByPlace there ∷ [])
        (instance_handed (function_frame items (call_of items (start ∷ two)) run (ByValue v ∷ [])) (object_name r i) (c_store o (bound_locals (tick ∷ []) (ByValue v ∷ []))) n))
        (drops_sim P y _ (body_sim o n h)))

    config_run_sim : (v : CVal) (o : Objects) (n : ℕ) → Ends (body_run o n) → Ends (call_of items six config_run_name (ByValue v ∷ []) o n)
    config_run_sim v o n h =
        let args : List CArg = arg.Value (expr.Path (plain_path tick_name)) ∷ [] in
        same (called items config_run (config_init ∷ four) config_run_name (ByValue v ∷ []) o n refl)
        (same (hands_on items (call_of items (config_init ∷ four)) config_run_name (tick ∷ []) (ByValue v ∷ []) o n run.name args (ByValue (handed v) ∷ [])
        (tick_handed (function_frame items (call_of items (config_init ∷ four)) config_run (ByValue v ∷ [])) v o n))
        (drops_sim P y _ (same (passed_by items config_init four run.name (ByValue (handed v) ∷ []) o n (config_init_no_run r.name)) (run_sim (handed v) o n h))))

    pub c_scan_sim : (Q : Store → Objects → Type 0) → ((s : Store) (o : Objects) → P s o → Q s (ticked o)) → (m : ℤ) (o : Objects) (n : ℕ) → Ends (body_run (at_moment o m) n)
        → Sim Q y (c_scan (c_unit u) m o n)
    c_scan_sim Q goes m o n h =
        subst (Sim Q y)
        (sym (ap (λ fs. c_then (call_of items (reverse fs) config_run_name (ByValue (of_type U64 (pos o.tick)) ∷ []) (at_moment o m) n) (λ l k. CDone (ticked l.objects) k)) (six_functions x)))
        (sim_after y (call_of items six config_run_name (ByValue (of_type U64 (pos o.tick)) ∷ []) (at_moment o m) n) _ (config_run_sim (of_type U64 (pos o.tick)) (at_moment o m) n h)
        (λ s l k p. both_done (goes s l.objects p)))
