-- The traces of both sides are equal.
use Rattle.std.proofs.Common.{◌≡◌, refl, sym, ap, subst, ◌∙◌, ℕ, ◌+◌, ◌<◌, List, [], ◌∷◌, ◌++◌, map}
use Rattle.std.specs.Prelude.{ℤ, pos}
use Rattle.std.specs.List.{All, filter}
use Rattle.std.proofs.lemmas.List.Elements.{All-head, All-tail}
use Rattle.plc_base.specs.Trace.{Event, Input, Force, Release, Scan, ColdStart, WarmStart, Entry, Shows}
use Rattle.plc_tree.specs.declared.typed.TUnit.{TUnit}
use Rattle.plc_tree.specs.declared.typed.TVar.{TVar}
use Rattle.plc_tree.specs.Outcome.{Out}
use Rattle.plc_tree.specs.Store.{Store, see, hold, let_go}
use Rattle.plc_tree.specs.Initial.{initial, warm}
use Rattle.plc_tree.specs.Rows.{Row, rows, kept}
use Rattle.plc_tree.specs.Execution.{exec_body}
use Rattle.plc_tree.specs.WellTyped.{IsTypedPou}
use Rattle.plc_tree.specs.Schedule.{interval_of}
use Rattle.plc_tree.specs.Run.{scan, tick_of, after_scan, with_force as source_force, with_release as source_release, IsInput, trace_from, trace_src, Fair}
use Rattle.c_meaning.specs.Outcome.{COut}
use Rattle.c_meaning.specs.Objects.{Objects, Named, no_objects, force_var, released}
use Rattle.c_meaning.specs.Items.{Cell, all_items, cells_of, lines_of}
use Rattle.c_meaning.specs.Names.{Apart}
use Rattle.c_meaning.specs.Run.{at_moment, c_scan, after_c_scan, after_init, line_value, is_output, c_outputs, with_force, with_release, all_kept, trace_c, trace_c_from}
use Rattle.emit_pou.specs.Emitted.{c_unit, debug_rows_from}
use Rattle.emit_pou.specs.Keeps.{StartsLike, ScansLike, BodyLike}
use Rattle.emit_pou.specs.Single.{Single, IsSingle, unit_of}
use Rattle.emit_pou.specs.Like.{Sim, both_done, both_past, Like, IsShown, place_of}
use Rattle.emit_pou.proofs.Functions.{env_at, frame}
use Rattle.emit_pou.proofs.Simulation.{zeros, c_init_done, scan_is, called_body_sim, c_scan_sim}
use Rattle.emit_pou.proofs.Stores.{like-at_moment, like-ticked}
use Rattle.emit_pou.proofs.Initials.{started, started_flag, like-started}
use Rattle.emit_pou.proofs.Leaves.{reached}
use Rattle.emit_pou.proofs.Statements.{body_sim}
use Rattle.emit_pou.proofs.Debugging.{keys, line_is, line_place, like-held, like-let_go}
use Rattle.emit_pou.proofs.Starts.{like-warm}
use Rattle.std.proofs.lemmas.Option.{none-some}
use Rattle.c_tree.specs.declared.tree.CUnit.{CUnit}

-- ---- debug rows show the listed rows

shown_rows : (u : TUnit) (s : Store) (o : Objects) (k : ℕ) (rs : List Row) → All (IsShown u s o) rs → map (line_value o) (lines_of (debug_rows_from k rs ++ [])) ≡ map (λ r. see u s r.path) rs
shown_rows u s o k [] h = refl
shown_rows u s o k (r ∷ rs) h =
    ap (λ ks. o.val (Named r.object ∷ ks) ∷ map (line_value o) (lines_of (debug_rows_from (k + 1) rs ++ []))) (keys r.fields)
    ∙ ap (λ v. v ∷ map (line_value o) (lines_of (debug_rows_from (k + 1) rs ++ []))) (IsShown.value (All-head (IsShown u s o) r rs h))
    ∙ ap (λ vs. see u s r.path ∷ vs) (shown_rows u s o (k + 1) rs (All-tail (IsShown u s o) r rs h))

-- ---- no cell is shown

no_cells : (k : ℕ) (rs : List Row) → cells_of (debug_rows_from k rs ++ []) ≡ []
no_cells k [] = refl
no_cells k (r ∷ rs) = no_cells (k + 1) rs

no_outputs : (x : Single) (o : Objects) → c_outputs (c_unit (unit_of x)) o ≡ []
no_outputs x o = ap (λ cs. map (λ (c : Cell). o.cells c.name) (filter is_output cs)) (no_cells 0 (rows (unit_of x)))

-- ---- scans and runs

-- after a scan both show the same, and go on
after_same : (x : Single) (k j : ℕ) (m : ℤ) (go : Store → List Entry) (go' : Objects → List Entry) (y : Out Store) (z : COut Objects)
    → Sim (λ s o. Like (unit_of x) s j m o) y z → ((s : Store) (o : Objects) → Like (unit_of x) s j m o → go' o ≡ go s)
    → after_c_scan (c_unit (unit_of x)) k m go' z ≡ after_scan (unit_of x) k m go y
after_same x k j m go go' _ _ (both_done {a = s} {b = o} like) h = λ i. Shows k m (no_outputs x o i) (shown_rows (unit_of x) s o 0 (rows (unit_of x)) like.shown i) ∷ h s o like i
after_same x k j m go go' _ _ both_past h = refl

module _ (x : Single) (interval : 0 < interval_of x.task) (typed : IsTypedPou x.pou) (apart : Apart (map (λ (v : TVar). v.name) x.pou.vars)) where
  abbrev u : TUnit
  u = unit_of x

  abbrev c : CUnit
  c = c_unit u

  -- from like objects the C ends as the source does, in like objects
  pub scan_sim : (s : Store) (k t : ℕ) (m before : ℤ) (o : Objects) (n : ℕ) → Like u s k before o → Sim (λ s' o'. Like u s' (k + 1) m o') (scan u t m s n) (c_scan c m o n)
  scan_sim s k t m before o n like =
      subst (λ y. Sim (λ s' o'. Like u s' (k + 1) m o') y (c_scan c m o n)) (sym (scan_is x t m s n interval))
      (c_scan_sim x (λ s' o'. Like u s' k m o') (exec_body (env_at x m) x.pou.body s n) (λ s' o'. Like u s' (k + 1) m o') (λ s' o' like'. like-ticked u s' k m o' like') m o n
      (body_sim x.pou.vars (env_at x m) (frame x) (λ s' o'. Like u s' k m o') (reached x apart typed.numbered k m) x.pou.body typed.body
      s (at_moment o m) (zeros x) n (like-at_moment u s k before o like m)))

  abbrev pub begun : Objects
  begun = started x x.pou.vars no_objects

  pub like-begun : Like u (initial u) 0 (pos 0) begun
  like-begun = like-started x typed apart

  -- ---- what the functions are held to

  pub starts_like : StartsLike u c
  starts_like n = (begun, c_init_done x apart typed.fit n, like-begun)

  pub scans_like : ScansLike u c
  scans_like s k m before o n like = scan_sim s k (tick_of k) m before o n like

  pub body_like : BodyLike x c
  body_like s k m o n like =
      called_body_sim x (λ s' o'. Like u s' k m o') (exec_body (env_at x m) x.pou.body s n) o n
      (body_sim x.pou.vars (env_at x m) (frame x) (λ s' o'. Like u s' k m o') (reached x apart typed.numbered k m) x.pou.body typed.body s o (zeros x) n like)

  -- ---- traces

  -- no address of a source names a cell
  no_input : (a : List ℕ) → IsInput u a → ⊥
  no_input a h = none-some h.cell h.is

  traces_from : (n : ℕ) (es : List Event) (s : Store) (o : Objects) (k since : ℕ) (m : ℤ) → Fair u es → Like u s since m o
      → trace_c_from c (kept u) n es o k ≡ trace_from u n es s k since
  traces_from n [] s o k since m fair like = refl
  traces_from n (Input a z ∷ es) s o k since m fair like = absurd (no_input a fair.0)
  traces_from n (Force i z ∷ es) s o k since m fair like =
      let r = fair.0.0 in
      let l = line_is 0 (rows u) i r.row r.is in
      ap (λ y. trace_c_from c (kept u) n es (with_force o y z) k) l.1
      ∙ ap (λ p. trace_c_from c (kept u) n es (force_var o p z) k) (line_place r.row)
      ∙ traces_from n es (hold s r.row.path z) (force_var o (place_of r.row) z) k since m fair.1 (like-held x apart typed.numbered since m s o like i r.row r.is z fair.0.1)
      ∙ sym (ap (λ y. trace_from u n es (source_force s y z) k since) r.is)
  traces_from n (Release i ∷ es) s o k since m fair like =
      let r = fair.0 in
      let l = line_is 0 (rows u) i r.row r.is in
      ap (λ y. trace_c_from c (kept u) n es (with_release o y) k) l.1
      ∙ ap (λ p. trace_c_from c (kept u) n es (released o p) k) (line_place r.row)
      ∙ traces_from n es (let_go u s r.row.path) (released o (place_of r.row)) k since m fair.1 (like-let_go x apart typed.numbered since m s o like i r.row r.is)
      ∙ sym (ap (λ y. trace_from u n es (source_release u s y) k since) r.is)
  traces_from n (Scan m' ∷ es) s o k since m fair like =
      after_same x k (since + 1) m' _ _ (scan u (tick_of since) m' s n) (c_scan c m' o n) (scan_sim s since (tick_of since) m' m o n like)
      (λ s' o' like'. traces_from n es s' o' (k + 1) (since + 1) m' fair.1 like')
  traces_from n (ColdStart ∷ es) s o k since m fair like =
      ap (after_init (λ p. trace_c_from c (kept u) n es p k)) (c_init_done x apart typed.fit n) ∙ traces_from n es (initial u) begun k 0 (pos 0) fair like-begun
  traces_from n (WarmStart ∷ es) s o k since m fair like =
      ap (after_init (λ p. trace_c_from c (kept u) n es (all_kept (lines_of (all_items c)) o p (kept u)) k)) (c_init_done x apart typed.fit n)
      ∙ traces_from n es (warm u s) (all_kept (lines_of (all_items c)) o begun (kept u)) k 0 (pos 0) fair
      (like-warm x apart typed.numbered s o begun since m like like-begun (λ p. started_flag x x.pou.vars no_objects p refl))

  -- for every bound and all events the unit shows what the source shows
  pub traces_single : (n : ℕ) (es : List Event) → Fair u es → trace_c c (kept u) n es ≡ trace_src u n es
  traces_single n es fair =
      ap (after_init (λ o. trace_c_from c (kept u) n es o 1)) (c_init_done x apart typed.fit n) ∙ traces_from n es (initial u) begun 1 0 (pos 0) fair like-begun

pub traces : (u : TUnit) → IsSingle u → (n : ℕ) (es : List Event) → Fair u es → trace_c (c_unit u) (kept u) n es ≡ trace_src u n es
traces u single n es fair =
    let P : TUnit → Type 0 = λ v. Fair v es → trace_c (c_unit v) (kept v) n es ≡ trace_src v n es in
    subst P (sym single.is) (traces_single single.parts single.interval single.typed single.apart n es) fair

pub starts : (v : TUnit) → IsSingle v → StartsLike v (c_unit v)
starts v single = subst (λ w. StartsLike w (c_unit w)) (sym single.is) (starts_like single.parts single.interval single.typed single.apart)

pub scans : (v : TUnit) → IsSingle v → ScansLike v (c_unit v)
scans v single = subst (λ w. ScansLike w (c_unit w)) (sym single.is) (scans_like single.parts single.interval single.typed single.apart)

pub bodies : (v : TUnit) (single : IsSingle v) → BodyLike single.parts (c_unit v)
bodies v single = subst (λ w. BodyLike single.parts (c_unit w)) (sym single.is) (body_like single.parts single.interval single.typed single.apart)
