-- The start of the program: each variable is set to its initial value, by no turn.
use Rattle.std.proofs.Common.{◌≡◌, refl, sym, ap, subst, ◌∙◌, ℕ, ◌+◌, List, [], ◌∷◌, map, Bool, true, false, None, arith}
use Rattle.std.specs.Prelude.{pos, nat_eq, ◌&&◌, is_some, unwrap_or, if◌then◌else◌}
use Rattle.std.specs.List.{All, flat_map}
use Rattle.std.specs.Ordering.{int_eq}
use Rattle.std.specs.Str.{bytes_eq}
use Rattle.std.proofs.lemmas.List.Elements.{All-nil, All-cons, All-head, All-tail}
use Rattle.std.proofs.lemmas.Bool.{or_parts}
use Rattle.std.proofs.lemmas.Bool.Decides.{nat_tests, Decides-int_eq}
use Rattle.plc_base.specs.Numbers.{Fits, wrap}
use Rattle.plc_base.proofs.Wrapping.{wrap-fits}
use Rattle.plc_base.proofs.Bytes.{bytes_eq-self, bytes_eq-turned}
use Rattle.plc_tree.specs.declared.typed.TVar.{TVar}
use Rattle.plc_tree.specs.Store.{Store, see}
use Rattle.plc_tree.specs.Initial.{init_in, initial}
use Rattle.plc_tree.specs.Rows.{Row, var_row, elem_of}
use Rattle.plc_tree.specs.WellTyped.{AreNumberedFrom, AreFit, IsTypedPou}
use Rattle.c_tree.specs.declared.tree.CStmt.{CStmt}
use Rattle.c_tree.specs.declared.tree.CStmt.TheVariants as stmt
use Rattle.c_meaning.specs.Outcome.{CDone, c_then}
use Rattle.c_meaning.specs.Objects.{Named, Place, Objects, no_objects, init_var, same_place}
use Rattle.c_meaning.specs.Loops.{c_store, CNext, c_go_on}
use Rattle.c_meaning.specs.Items.{object_in, shape_of, shape_from}
use Rattle.c_meaning.specs.Execution.{elem_at, elem_of_shape, c_value, c_exec, c_run}
use Rattle.c_meaning.specs.Names.{is_among, Apart}
use Rattle.c_tree.specs.WellSpelled.{Every}
use Rattle.c_meaning.proofs.MeaningViews.{c_run-append, c_run-one}
use Rattle.emit_pou.specs.Emitted.{init_stmt}
use Rattle.emit_pou.specs.Expressions.{own, literal}
use Rattle.emit_pou.specs.Single.{Single}
use Rattle.emit_pou.specs.Like.{IsShown, Like, place_of}
use Rattle.emit_pou.proofs.Steps.{sim_done}
use Rattle.emit_pou.proofs.Schedules.{inst_of, resource_of, nat_eq-self}
use Rattle.emit_pou.proofs.GoodNames.{object, rows_are}
use Rattle.emit_pou.proofs.GoodRows.{IsFound, shape_known}
use Rattle.emit_pou.proofs.Functions.{u, init_frame}
use Rattle.emit_pou.proofs.Expressions.{literal_sim}
use Rattle.emit_pou.proofs.Leaves.{names, after, Distinct, place_in, structures_are, objects_are}

-- ---- what the statements leave

module _ (x : Single) where
  abbrev set_up : Objects → TVar → Objects
  set_up o v = if int_eq v.init (pos 0) then o else init_var o (place_in x v.name) v.init

  abbrev pub started : List TVar → Objects → Objects
  started [] o = o
  started (v ∷ vs) o = started vs (set_up o v)

  elem_found : (v : TVar) → IsFound x.pou.vars v → elem_at (init_frame x) (place_in x v.name) ≡ elem_of v.ty
  elem_found v h =
      (λ i. elem_of_shape (shape_from (structures_are x i) (shape_of (object_in (objects_are x i) (object x))) (Named v.name ∷ [])))
      ∙ ap elem_of_shape (shape_known x v h)

  init_exec : (v : TVar) → IsFound x.pou.vars v → Fits (elem_of v.ty) v.init → (o : Objects) (n : ℕ)
      → c_exec (init_frame x) (stmt.InitVar (own v.name) (literal (elem_of v.ty) v.init)) (c_store o []) n ≡ CDone (c_store (init_var o (place_in x v.name) v.init) [], CNext) n
  init_exec v found fits o n =
      let d = sim_done v.init n (c_value (init_frame x) (literal (elem_of v.ty) v.init) (c_store o []) n) (literal_sim (init_frame x) (c_store o []) (elem_of v.ty) v.init n fits) in
      ap (λ y. c_then y (λ w k. CDone (c_store (init_var w.1.objects (place_in x v.name) (wrap (elem_at (init_frame x) (place_in x v.name)) w.0.z)) w.1.locals, CNext) k)) d.1
      ∙ (λ i. CDone (c_store (init_var (d.2.stays i).objects (place_in x v.name) (wrap (elem_found v found i) (d.2.value.is i).z)) (d.2.stays i).locals, CNext) n)
      ∙ ap (λ z. CDone (c_store (init_var o (place_in x v.name) z) [], CNext) n) (wrap-fits (elem_of v.ty) v.init fits)

  init_one : (v : TVar) → IsFound x.pou.vars v → Fits (elem_of v.ty) v.init → (o : Objects) (n : ℕ) → c_run (init_frame x) (init_stmt v) (c_store o []) n ≡ CDone (c_store (set_up o v) [], CNext) n
  init_one v found fits o n = by (int_eq v.init (pos 0))
    where
      set : CStmt
      set = stmt.InitVar (own v.name) (literal (elem_of v.ty) v.init)

      by : (b : Bool) → c_run (init_frame x) (if b then [] else set ∷ []) (c_store o []) n ≡ CDone (c_store (if b then o else init_var o (place_in x v.name) v.init) [], CNext) n
      by true = refl
      by false = c_run-one (init_frame x) set (c_store o []) n ∙ init_exec v found fits o n

  pub init_run : (vs : List TVar) → Every (IsFound x.pou.vars) vs → AreFit vs → (o : Objects) (n : ℕ)
      → c_run (init_frame x) (flat_map init_stmt vs) (c_store o []) n ≡ CDone (c_store (started vs o) [], CNext) n
  init_run [] found fits o n = refl
  init_run (v ∷ vs) found fits o n =
      c_run-append (init_frame x) (init_stmt v) (flat_map init_stmt vs) (c_store o []) n
      ∙ ap (λ y. c_then y (λ st r. c_go_on st r (c_run (init_frame x) (flat_map init_stmt vs)))) (init_one v found.0 fits.0 o n)
      ∙ init_run vs found.1 fits.1 (set_up o v) n

  -- ---- it is what the source starts from

  same_place_is : (a b : List ℕ) → same_place (place_in x a) (place_in x b) ≡ bytes_eq a b && true
  same_place_is a b = ap (λ t. t && (bytes_eq a b && true)) (bytes_eq-self (object x))

  -- another variable's value stays
  set_apart : (o : Objects) (v : TVar) (name : List ℕ) → bytes_eq v.name name ≡ false → (set_up o v).val (place_in x name) ≡ o.val (place_in x name)
  set_apart o v name h = by (int_eq v.init (pos 0))
    where
      by : (b : Bool) → (if b then o else init_var o (place_in x v.name) v.init).val (place_in x name) ≡ o.val (place_in x name)
      by true = refl
      by false = ap (λ t. if t then v.init else o.val (place_in x name)) (same_place_is name v.name ∙ ap (λ t. t && true) (bytes_eq-turned v.name name h))

  set_here : (o : Objects) (v : TVar) → o.val (place_in x v.name) ≡ pos 0 → (set_up o v).val (place_in x v.name) ≡ v.init
  set_here o v e = by (int_eq v.init (pos 0)) refl
    where
      by : (b : Bool) → int_eq v.init (pos 0) ≡ b → (if b then o else init_var o (place_in x v.name) v.init).val (place_in x v.name) ≡ v.init
      by true is = e ∙ sym ((Decides-int_eq v.init (pos 0)).0 is)
      by false is = ap (λ t. if t then v.init else o.val (place_in x v.name)) (same_place_is v.name v.name ∙ ap (λ t. t && true) (bytes_eq-self v.name))

  started_apart : (vs : List TVar) (o : Objects) (name : List ℕ) → is_among name (names vs) ≡ false → (started vs o).val (place_in x name) ≡ o.val (place_in x name)
  started_apart [] o name h = refl
  started_apart (v ∷ vs) o name h =
      let p = or_parts (bytes_eq v.name name) (is_among name (names vs)) h in started_apart vs (set_up o v) name p.1 ∙ set_apart o v name p.0

  -- what holds of a variable at the start, and of its objects
  abbrev IsStarted : Objects → TVar → Type 0
  IsStarted o v = o.val (place_in x v.name) ≡ v.init

  abbrev IsZero : Objects → TVar → Type 0
  IsZero o v = o.val (place_in x v.name) ≡ pos 0

  zero_later : (o : Objects) (v : TVar) (vs : List TVar) → is_among v.name (names vs) ≡ false → Every (IsZero o) vs → Every (IsZero (set_up o v)) vs
  zero_later o v [] h z = tt
  zero_later o v (w ∷ vs) h z =
      let p = or_parts (bytes_eq w.name v.name) (is_among v.name (names vs)) h in
      (set_apart o v w.name (bytes_eq-turned w.name v.name p.0) ∙ z.0, zero_later o v vs p.1 z.1)

  all_started : (vs : List TVar) (o : Objects) → Apart (names vs) → Every (IsZero o) vs → Every (IsStarted (started vs o)) vs
  all_started [] o a z = tt
  all_started (v ∷ vs) o a z = (started_apart vs (set_up o v) v.name a.0 ∙ set_here o v z.0, all_started vs (set_up o v) a.1 (zero_later o v vs a.0 z.1))

  set_flag : (o : Objects) (v : TVar) (p : Place) → o.flag p ≡ false → (set_up o v).flag p ≡ false
  set_flag o v p h = by (int_eq v.init (pos 0))
    where
      cleared : (t : Bool) → (if t then false else o.flag p) ≡ false
      cleared true = refl
      cleared false = h

      by : (b : Bool) → (if b then o else init_var o (place_in x v.name) v.init).flag p ≡ false
      by true = h
      by false = cleared (same_place p (place_in x v.name))

  pub started_flag : (vs : List TVar) (o : Objects) (p : Place) → o.flag p ≡ false → (started vs o).flag p ≡ false
  started_flag [] o p h = h
  started_flag (v ∷ vs) o p h = started_flag vs (set_up o v) p (set_flag o v p h)

  set_rest : (o : Objects) (v : TVar) → ((set_up o v).tick ≡ o.tick) × ((set_up o v).moment ≡ o.moment)
  set_rest o v = by (int_eq v.init (pos 0))
    where
      by : (b : Bool) → ((if b then o else init_var o (place_in x v.name) v.init).tick ≡ o.tick) × ((if b then o else init_var o (place_in x v.name) v.init).moment ≡ o.moment)
      by true = (refl, refl)
      by false = (refl, refl)

  started_rest : (vs : List TVar) (o : Objects) → ((started vs o).tick ≡ o.tick) × ((started vs o).moment ≡ o.moment)
  started_rest [] o = (refl, refl)
  started_rest (v ∷ vs) o = let h = started_rest vs (set_up o v) in let k = set_rest o v in (h.0 ∙ k.0, h.1 ∙ k.1)

  -- ---- each row is found by its path

  abbrev row : TVar → Row
  row v = var_row (resource_of x) (inst_of x) v

  abbrev IsInitial : List TVar → TVar → Type 0
  IsInitial vs v = init_in (map row vs) (row v).path ≡ v.init

  same_path : (v w : TVar) → bytes_eq (row v).path (row w).path ≡ nat_eq v.id w.id && true
  same_path v w = ap (λ b. b && (nat_eq v.id w.id && true)) (nat_eq-self x.inst_id)

  initial_later : (v : TVar) (vs us : List TVar) → All (λ w. Distinct w v) us → Every (IsInitial vs) us → Every (IsInitial (v ∷ vs)) us
  initial_later v vs [] d h = tt
  initial_later v vs (w ∷ us) d h =
      let e : nat_eq w.id v.id ≡ false = (All-head (λ w. Distinct w v) w us d).1 in
      let f : nat_eq v.id w.id ≡ false = grind (arith, nat_tests) in
      (ap (λ b. if b then v.init else init_in (map row vs) (row w).path) (same_path v w ∙ ap (λ b. b && true) f) ∙ h.0, initial_later v vs us (All-tail (λ w. Distinct w v) w us d) h.1)

  all_initial : (k : ℕ) (vs : List TVar) → Apart (names vs) → AreNumberedFrom k vs → Every (IsInitial vs) vs
  all_initial k [] a n = tt
  all_initial k (v ∷ vs) a n =
      let is : v.id ≡ k = n.0 in (
        ap (λ b. if b then v.init else init_in (map row vs) (row v).path) (same_path v v ∙ ap (λ b. b && true) (nat_eq-self v.id)),
        initial_later v vs vs (after v (k + 1) vs (omega (arith, is)) a.0 n.1) (all_initial (k + 1) vs a.1 n.1),
      )

  -- ---- together

  rows_shown : (s : Store) (o : Objects) (vs : List TVar) → Every (IsStarted o) vs → ((p : Place) → o.flag p ≡ false) → Every (λ v. s.cell (row v).path ≡ v.init) vs → ((p : List ℕ) → s.force p ≡ None) → AreFit vs
      → All (IsShown (u x) s o) (map row vs)
  rows_shown s o [] started flags initials forces fits = All-nil (IsShown (u x) s o)
  rows_shown s o (v ∷ vs) started flags initials forces fits =
      let seen : see (u x) s (row v).path ≡ v.init = ap (λ f. unwrap_or f (s.cell (row v).path)) (forces (row v).path) ∙ initials.0 in
      All-cons (IsShown (u x) s o) (row v) (map row vs) (record {
        value = started.0 ∙ sym seen;
        flag = flags (place_of (row v)) ∙ sym (ap is_some (forces (row v).path));
        fits = subst (Fits (elem_of v.ty)) (sym seen) fits.0;
      }) (rows_shown s o vs started.1 flags initials.1 forces fits.1)

  zeros : (vs : List TVar) → Every (IsZero no_objects) vs
  zeros [] = tt
  zeros (v ∷ vs) = (refl, zeros vs)

  pub like-started : IsTypedPou x.pou → Apart (names x.pou.vars) → Like (u x) (initial (u x)) 0 (pos 0) (started x.pou.vars no_objects)
  like-started t a =
      let vs = x.pou.vars in
      let cells : Every (λ v. (initial (u x)).cell (row v).path ≡ v.init) vs =
      subst (λ rs. Every (λ v. init_in rs (row v).path ≡ v.init) vs) (sym (rows_are x)) (all_initial t.numbered.first vs a t.numbered.from) in
      record {
        shown = subst (All (IsShown (u x) (initial (u x)) (started vs no_objects))) (sym (rows_are x))
            (rows_shown (initial (u x)) (started vs no_objects) vs (all_started vs no_objects a (zeros vs)) (λ p. started_flag vs no_objects p refl) cells (λ p. refl) t.fit);
        tick = (started_rest vs no_objects).0;
        moment = (started_rest vs no_objects).1;
      }
