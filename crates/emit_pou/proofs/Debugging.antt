-- Forces and releases: what a debug row does to the objects is what its listed row does to the store.
use Rattle.std.proofs.Common.{◌≡◌, refl, sym, ap, subst, ◌∙◌, ℕ, zero, suc, ◌+◌, List, [], ◌∷◌, ◌++◌, map, true, false, Option, Some, None, inl, inr, arith}
use Rattle.std.specs.Prelude.{ℤ, ◌&&◌, is_some, unwrap_or, if◌then◌else◌}
use Rattle.std.specs.List.{All}
use Rattle.std.specs.Str.{bytes_eq}
use Rattle.std.proofs.lemmas.List.Elements.{All-nil, All-cons, All-head, All-tail, All-map, All-weaker}
use Rattle.std.proofs.lemmas.Option.{none-some, same_Some}
use Rattle.plc_base.specs.Numbers.{Fits}
use Rattle.plc_base.proofs.Bytes.{bytes_eq-self}
use Rattle.plc_tree.specs.declared.typed.TVar.{TVar}
use Rattle.plc_tree.specs.Store.{Store, see, hold, let_go}
use Rattle.plc_tree.specs.Rows.{Row, rows, row_at, elem_of}
use Rattle.plc_tree.specs.WellTyped.{AreNumberedFrom, AreNumbered}
use Rattle.c_tree.specs.declared.tree.CRow.TheVariants.{Var}
use Rattle.c_tree.specs.declared.tree.CSel.TheVariants.{Field}
use Rattle.c_meaning.specs.Objects.{Named, Objects, same_place, force_var, released}
use Rattle.c_meaning.specs.Items.{DebugLine, lines_of}
use Rattle.c_meaning.specs.Names.{Apart}
use Rattle.c_meaning.specs.Run.{sel_key, path_place, line_at}
use Rattle.emit_pou.specs.Emitted.{row_path, debug_rows_from}
use Rattle.emit_pou.specs.Single.{Single}
use Rattle.emit_pou.specs.Like.{IsShown, Like, place_of}
use Rattle.emit_pou.proofs.Schedules.{nat_eq-self}
use Rattle.emit_pou.proofs.GoodNames.{rows_are}
use Rattle.emit_pou.proofs.Functions.{u}
use Rattle.emit_pou.proofs.Leaves.{names, Distinct, distinct-sym, OneOrApart, after, row, IsShownIn, same_place_is, same_path_is, each}

-- ---- rows and debug rows

pub keys : (fields : List (List ℕ)) → map sel_key (map Field fields) ≡ map Named fields
keys [] = refl
keys (f ∷ fs) = ap (λ ks. Named f ∷ ks) (keys fs)

-- the path of a debug row leads to the place of its row
pub line_place : (r : Row) → path_place (row_path r) ≡ place_of r
line_place r = ap (λ ks. Named r.object ∷ ks) (keys r.fields)

abbrev pub line : ℕ → Row → DebugLine
line k r = record { number = k; elem = r.elem; path = row_path r; kind = Var }

pub line_is : (k : ℕ) (rs : List Row) (i : ℕ) (r : Row) → row_at rs i ≡ Some r → (j : ℕ) × (line_at (lines_of (debug_rows_from k rs ++ [])) i ≡ Some (line j r))
line_is k [] i r h = absurd (none-some r h)
line_is k (q ∷ rs) zero r h = (k, ap (λ p. Some (line k p)) (same_Some q r h))
line_is k (q ∷ rs) (suc i) r h = line_is (k + 1) rs i r h

-- ---- the variable of a row

abbrev var_at : List TVar → ℕ → Option TVar
var_at [] i = None
var_at (v ∷ vs) zero = Some v
var_at (v ∷ vs) (suc i) = var_at vs i

at_of_all : (P : TVar → Type 0) (vs : List TVar) (i : ℕ) (v : TVar) → var_at vs i ≡ Some v → All P vs → P v
at_of_all P [] i v h a = absurd (none-some v h)
at_of_all P (w ∷ vs) zero v h a = subst P (same_Some w v h) (All-head P w vs a)
at_of_all P (w ∷ vs) (suc i) v h a = at_of_all P vs i v h (All-tail P w vs a)

-- each variable is the one at a place of the list, or distinct from it
at_or_apart : (k : ℕ) (vs : List TVar) (i : ℕ) (v : TVar) → Apart (names vs) → AreNumberedFrom k vs → var_at vs i ≡ Some v → All (OneOrApart v) vs
at_or_apart k [] i v a n h = All-nil (OneOrApart v)
at_or_apart k (w ∷ vs) zero v a n h =
    let e : w ≡ v = same_Some w v h in
    let is : w.id ≡ k = n.0 in
    All-cons (OneOrApart v) w vs (inl e) (All-weaker (λ q. Distinct q w) (OneOrApart v) (λ q d. inr (subst (Distinct q) e d)) vs (after w (k + 1) vs (omega arith) a.0 n.1))
at_or_apart k (w ∷ vs) (suc i) v a n h =
    let is : w.id ≡ k = n.0 in
    let rest : All (λ q. Distinct q w) vs = after w (k + 1) vs (omega arith) a.0 n.1 in
    All-cons (OneOrApart v) w vs (inr (distinct-sym v w (at_of_all (λ q. Distinct q w) vs i v h rest))) (at_or_apart (k + 1) vs i v a.1 n.1 h)

module _ (x : Single) where
  abbrev vs : List TVar
  vs = x.pou.vars

  var_of_row : (ws : List TVar) (i : ℕ) (r : Row) → row_at (map (row x) ws) i ≡ Some r → (v : TVar) × (var_at ws i ≡ Some v) × (row x v ≡ r)
  var_of_row [] i r h = absurd (none-some r h)
  var_of_row (v ∷ ws) zero r h = (v, refl, same_Some (row x v) r h)
  var_of_row (v ∷ ws) (suc i) r h = var_of_row ws i r h

  -- ---- the variable that is held or let go, and the others

  -- a function that was changed at the place or the path of a variable
  at_place : {A : Type 0} (v : TVar) (a b : A) → (if same_place (place_of (row x v)) (place_of (row x v)) then a else b) ≡ a
  at_place v a b = ap (λ t. if t then a else b) (same_place_is x v v ∙ ap (λ t. t && true) (bytes_eq-self v.name))

  at_path : {A : Type 0} (v : TVar) (a b : A) → (if bytes_eq (row x v).path (row x v).path then a else b) ≡ a
  at_path v a b = ap (λ t. if t then a else b) (same_path_is x v v ∙ ap (λ t. t && true) (nat_eq-self v.id))

  off_place : {A : Type 0} (v w : TVar) (a b : A) → Distinct w v → (if same_place (place_of (row x w)) (place_of (row x v)) then a else b) ≡ b
  off_place v w a b d = ap (λ t. if t then a else b) (same_place_is x v w ∙ ap (λ t. t && true) d.0)

  off_path : {A : Type 0} (v w : TVar) (a b : A) → Distinct w v → (if bytes_eq (row x w).path (row x v).path then a else b) ≡ b
  off_path v w a b d = ap (λ t. if t then a else b) (same_path_is x v w ∙ ap (λ t. t && true) d.1)

  held_here : (s : Store) (o : Objects) (v : TVar) (z : ℤ) → Fits (elem_of v.ty) z → IsShownIn x (hold s (row x v).path z) (force_var o (place_of (row x v)) z) v
  held_here s o v z f =
      let seen : see (u x) (hold s (row x v).path z) (row x v).path ≡ z = ap (λ y. unwrap_or y (s.cell (row x v).path)) (at_path v (Some z) (s.force (row x v).path)) in
      record {
        value = at_place v z (o.val (place_of (row x v))) ∙ sym seen;
        flag = at_place v true (o.flag (place_of (row x v))) ∙ sym (ap is_some (at_path v (Some z) (s.force (row x v).path)));
        fits = subst (Fits (elem_of v.ty)) (sym seen) f;
      }

  held_apart : (s : Store) (o : Objects) (v w : TVar) (z : ℤ) → Distinct w v → IsShownIn x s o w → IsShownIn x (hold s (row x v).path z) (force_var o (place_of (row x v)) z) w
  held_apart s o v w z d h =
      let seen : see (u x) (hold s (row x v).path z) (row x w).path ≡ see (u x) s (row x w).path =
      ap (λ y. unwrap_or y (s.cell (row x w).path)) (off_path v w (Some z) (s.force (row x w).path) d) in
      record {
        value = off_place v w z (o.val (place_of (row x w))) d ∙ h.value ∙ sym seen;
        flag = off_place v w true (o.flag (place_of (row x w))) d ∙ h.flag ∙ sym (ap is_some (off_path v w (Some z) (s.force (row x w).path) d));
        fits = subst (Fits (elem_of w.ty)) (sym seen) h.fits;
      }

  let_go_here : (s : Store) (o : Objects) (v : TVar) → IsShownIn x s o v → IsShownIn x (let_go (u x) s (row x v).path) (released o (place_of (row x v))) v
  let_go_here s o v h =
      let path = (row x v).path in
      let seen : see (u x) (let_go (u x) s path) path ≡ see (u x) s path =
      (λ i. unwrap_or (at_path v None (s.force path) i) (at_path v (see (u x) s path) (s.cell path) i)) in
      record {
        value = h.value ∙ sym seen;
        flag = at_place v false (o.flag (place_of (row x v))) ∙ sym (ap is_some (at_path v None (s.force path)));
        fits = subst (Fits (elem_of v.ty)) (sym seen) h.fits;
      }

  let_go_apart : (s : Store) (o : Objects) (v w : TVar) → Distinct w v → IsShownIn x s o w → IsShownIn x (let_go (u x) s (row x v).path) (released o (place_of (row x v))) w
  let_go_apart s o v w d h =
      let path = (row x v).path in
      let seen : see (u x) (let_go (u x) s path) (row x w).path ≡ see (u x) s (row x w).path =
      (λ i. unwrap_or (off_path v w None (s.force (row x w).path) d i) (off_path v w (see (u x) s path) (s.cell (row x w).path) d i)) in
      record {
        value = h.value ∙ sym seen;
        flag = off_place v w false (o.flag (place_of (row x w))) d ∙ h.flag ∙ sym (ap is_some (off_path v w None (s.force (row x w).path) d));
        fits = subst (Fits (elem_of w.ty)) (sym seen) h.fits;
      }

  -- ---- all rows

  pub all_shown : (s : Store) (o : Objects) → All (IsShown (u x) s o) (rows (u x)) → All (IsShownIn x s o) vs
  all_shown s o h = each x (IsShown (u x) s o) vs (subst (All (IsShown (u x) s o)) (rows_are x) h)

  pub shown_rows : (s : Store) (o : Objects) → All (IsShownIn x s o) vs → All (IsShown (u x) s o) (rows (u x))
  shown_rows s o h = subst (All (IsShown (u x) s o)) (sym (rows_are x)) (All-map (IsShown (u x) s o) (row x) vs h)

  one_changed : (s t : Store) (o p : Objects) (v : TVar) → IsShownIn x t p v → ((w : TVar) → Distinct w v → IsShownIn x s o w → IsShownIn x t p w)
      → (w : TVar) → OneOrApart v w → IsShownIn x s o w → IsShownIn x t p w
  one_changed s t o p v here apart w (inl e) h = subst (IsShownIn x t p) (sym e) here
  one_changed s t o p v here apart w (inr d) h = apart w d h

  changed : (s t : Store) (o p : Objects) (v : TVar) → All (OneOrApart v) vs → IsShownIn x t p v → ((w : TVar) → Distinct w v → IsShownIn x s o w → IsShownIn x t p w)
      → All (IsShown (u x) s o) (rows (u x)) → All (IsShown (u x) t p) (rows (u x))
  changed s t o p v cases here apart h = shown_rows t p (λ j w lt. one_changed s t o p v here apart _ (cases j w lt) (all_shown s o h j w lt))

  -- ---- a force and a release of a row

  module _ (apart : Apart (names vs)) (numbered : AreNumbered vs) (k : ℕ) (m : ℤ) (s : Store) (o : Objects) (like : Like (u x) s k m o) (i : ℕ) (r : Row) (is : row_at (rows (u x)) i ≡ Some r) where
    found : (v : TVar) × (var_at vs i ≡ Some v) × (row x v ≡ r)
    found = var_of_row vs i r (subst (λ rs. row_at rs i ≡ Some r) (rows_are x) is)

    cases : All (OneOrApart found.0) vs
    cases = at_or_apart numbered.first vs i found.0 apart numbered.from found.1

    pub like-held : (z : ℤ) → Fits r.elem z → Like (u x) (hold s r.path z) k m (force_var o (place_of r) z)
    like-held z f =
        let v = found.0 in
        subst (λ q. Fits q.elem z → Like (u x) (hold s q.path z) k m (force_var o (place_of q) z)) found.2
        (λ g. record {
          shown = changed s (hold s (row x v).path z) o (force_var o (place_of (row x v)) z) v cases (held_here s o v z g) (λ w d h. held_apart s o v w z d h) like.shown;
          tick = like.tick;
          moment = like.moment;
        }) f

    pub like-let_go : Like (u x) (let_go (u x) s r.path) k m (released o (place_of r))
    like-let_go =
        let v = found.0 in
        subst (λ q. Like (u x) (let_go (u x) s q.path) k m (released o (place_of q))) found.2
        (record {
          shown = changed s (let_go (u x) s (row x v).path) o (released o (place_of (row x v))) v cases
              (let_go_here s o v (at_of_all (IsShownIn x s o) vs i v found.1 (all_shown s o like.shown))) (λ w d h. let_go_apart s o v w d h) like.shown;
          tick = like.tick;
          moment = like.moment;
        })
