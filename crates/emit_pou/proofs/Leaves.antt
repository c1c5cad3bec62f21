-- The variables of the running instance: what `__GET_VAR` and `__SET_VAR` do is what the source does.
use Rattle.std.proofs.Common.{◌≡◌, refl, sym, ap, subst, ◌∙◌, ℕ, ◌+◌, ◌<◌, List, [], ◌∷◌, ◌++◌, map, Bool, true, false, Option, Some, None, ◌⊎◌, inl, inr, arith}
use Rattle.std.specs.Prelude.{ℤ, nat_eq, ◌&&◌, is_some, unwrap_or, if◌then◌else◌}
use Rattle.std.specs.Str.{bytes_eq}
use Rattle.std.specs.List.{All}
use Rattle.std.proofs.lemmas.List.Elements.{All-nil, All-cons, All-head, All-tail, All-map, All-weaker}
use Rattle.std.proofs.lemmas.Bool.{or_parts}
use Rattle.std.proofs.lemmas.Bool.Decides.{nat_tests}
use Rattle.std.proofs.lemmas.Option.{none-some, same_Some}
use Rattle.plc_base.specs.Numbers.{Fits, wrap}
use Rattle.plc_base.proofs.Wrapping.{wrap-fits}
use Rattle.plc_base.proofs.Bytes.{bytes_eq-self, bytes_eq-turned}
use Rattle.plc_tree.specs.declared.typed.TypeId.{TypeId}
use Rattle.plc_tree.specs.declared.typed.TVar.{TVar}
use Rattle.plc_tree.specs.declared.typed.TPath.{TPath}
use Rattle.plc_tree.specs.Outcome.{Done}
use Rattle.plc_tree.specs.Execution.{place}
use Rattle.plc_tree.specs.Store.{Store, see, write, put}
use Rattle.plc_tree.specs.Rows.{Row, rows, var_row, elem_of}
use Rattle.plc_tree.specs.WellTyped.{var_in, type_of, AreNumberedFrom, AreNumbered}
use Rattle.c_tree.specs.declared.tree.CType.TheVariants as of
use Rattle.c_meaning.specs.Values.{of_type, promoted}
use Rattle.c_meaning.specs.Objects.{Named, Place, Objects, set_var, put_at, same_place}
use Rattle.c_meaning.specs.Items.{objects_of, structures_of, object_in, shape_of, shape_from}
use Rattle.c_meaning.specs.Execution.{c_value, elem_at, elem_of_shape}
use Rattle.c_meaning.specs.Names.{is_among, Apart}
use Rattle.c_meaning.proofs.MeaningViews.{c_value-GetVar}
use Rattle.emit_pou.specs.Emitted.{name_of, debug_rows_from}
use Rattle.emit_pou.specs.Expressions.{leaf, name_of_var}
use Rattle.emit_pou.specs.Single.{Single}
use Rattle.emit_pou.specs.Like.{Sim, both_done, Alike, Gives, IsShown, Like, at_work, IsReached, place_of}
use Rattle.emit_pou.proofs.Steps.{sim_given}
use Rattle.emit_pou.proofs.Schedules.{inst_of, resource_of, nat_eq-self}
use Rattle.emit_pou.proofs.GoodNames.{object, rows_are}
use Rattle.emit_pou.proofs.GoodRows.{IsFound, all_found, instance_object, shape_known}
use Rattle.emit_pou.proofs.KeptExpressions.{every_var}
use Rattle.emit_pou.proofs.MemberRows.{structure, structures_is}
use Rattle.emit_pou.proofs.Program.{program_is}
use Rattle.emit_pou.proofs.Functions.{u, items, env_at, frame}
use Rattle.emit_pou.proofs.Expressions.{AreReached}

-- ---- variables of one list

abbrev pub names : List TVar → List (List ℕ)
names vs = map (λ (v : TVar). v.name) vs

abbrev pub Distinct : TVar → TVar → Type 0
Distinct v w = (bytes_eq v.name w.name ≡ false) × (nat_eq v.id w.id ≡ false)

pub distinct-sym : (v w : TVar) → Distinct v w → Distinct w v
distinct-sym v w h = let e : nat_eq v.id w.id ≡ false = h.1 in let f : nat_eq w.id v.id ≡ false = grind (arith, nat_tests) in (bytes_eq-turned v.name w.name h.0, f)

-- one is distinct from those that are declared after it
pub after : (w : TVar) (k : ℕ) (vs : List TVar) → w.id < k → is_among w.name (names vs) ≡ false → AreNumberedFrom k vs → All (λ v. Distinct v w) vs
after w k [] h a n = All-nil (λ v. Distinct v w)
after w k (v ∷ vs) h a n =
    let p = or_parts (bytes_eq v.name w.name) (is_among w.name (names vs)) a in
    let is : v.id ≡ k = n.0 in
    let differ : nat_eq v.id w.id ≡ false = grind (arith, nat_tests) in
    All-cons (λ v. Distinct v w) v vs (p.0, differ) (after w (k + 1) vs (omega arith) p.1 n.1)

-- one that has the number
abbrev Has : List TVar → ℕ → TVar → Type 0
Has vs id v = var_in vs id ≡ Some v

-- a variable that is looked up is the first, or one after it
looked : {C : Type 0} (w : TVar) (vs : List TVar) (id : ℕ) (v : TVar) → Has (w ∷ vs) id v → ((w ≡ v) → (w.id ≡ id) → C) → (Has vs id v → C) → C
looked {C} w vs id v h first later = by (nat_eq w.id id) refl
  where
    by : (b : Bool) → nat_eq w.id id ≡ b → C
    by true e = let is : w.id ≡ id = grind (arith, nat_tests) in first (same_Some w v (sym (ap (λ b. if b then Some w else var_in vs id) e) ∙ h)) is
    by false e = later (sym (ap (λ b. if b then Some w else var_in vs id) e) ∙ h)

-- what holds of all holds of it
of_all : (P : TVar → Type 0) (vs : List TVar) (id : ℕ) (v : TVar) → Has vs id v → All P vs → P v
of_all P [] id v h a = cc
of_all P (w ∷ vs) id v h a = looked w vs id v h (λ e i. subst P e (All-head P w vs a)) (λ g. of_all P vs id v g (All-tail P w vs a))

number_is : (vs : List TVar) (id : ℕ) (v : TVar) → Has vs id v → v.id ≡ id
number_is [] id v h = cc
number_is (w ∷ vs) id v h = looked w vs id v h (λ e i. ap (λ (x : TVar). x.id) (sym e) ∙ i) (λ g. number_is vs id v g)

-- each variable is the one that is looked up, or distinct from it
abbrev pub OneOrApart : TVar → TVar → Type 0
OneOrApart v w = (w ≡ v) ⊎ Distinct w v

one_or_apart : (k : ℕ) (vs : List TVar) (id : ℕ) (v : TVar) → Apart (names vs) → AreNumberedFrom k vs → Has vs id v → All (OneOrApart v) vs
one_or_apart k [] id v a n h = All-nil (OneOrApart v)
one_or_apart k (w ∷ vs) id v a n h =
    let is : w.id ≡ k = n.0 in
    let rest : All (λ q. Distinct q w) vs = after w (k + 1) vs (omega arith) a.0 n.1 in
    looked w vs id v h
    (λ e i. All-cons (OneOrApart v) w vs (inl e) (All-weaker (λ q. Distinct q w) (OneOrApart v) (λ q d. inr (subst (Distinct q) e d)) vs rest))
    (λ g. All-cons (OneOrApart v) w vs (inr (distinct-sym v w (of_all (λ q. Distinct q w) vs id v g rest))) (one_or_apart (k + 1) vs id v a.1 n.1 g))

-- it is a member of the structure
member_is : (vs : List TVar) (id : ℕ) (v : TVar) → Apart (names vs) → Has vs id v → IsFound vs v
member_is vs id v a h = every_var (IsFound vs) vs id v (all_found vs a) h

-- ---- the types of the objects

no_objects_there : (k : ℕ) (rs : List Row) → objects_of (debug_rows_from k rs ++ []) ≡ []
no_objects_there k [] = refl
no_objects_there k (r ∷ rs) = no_objects_there (k + 1) rs

no_structures : (k : ℕ) (rs : List Row) → structures_of (debug_rows_from k rs ++ []) ≡ []
no_structures k [] = refl
no_structures k (r ∷ rs) = no_structures (k + 1) rs

module _ (x : Single) where
  abbrev vs : List TVar
  vs = x.pou.vars

  abbrev pub row : TVar → Row
  row v = var_row (resource_of x) (inst_of x) v

  abbrev pub place_in : List ℕ → Place
  place_in name = Named (object x) ∷ Named name ∷ []

  pub structures_are : structures_of (items x) ≡ structure x.pou ∷ []
  structures_are = λ i. structures_is x.pou i ++ no_structures 0 (rows (u x)) i

  pub objects_are : objects_of (items x) ≡ instance_object x ∷ []
  objects_are = λ i. record { ty = of.Struct (name_of (program_is x i)); name = object x; dims = [] } ∷ no_objects_there 0 (rows (u x)) i

  pub elem_is : (id : ℕ) (v : TVar) → Apart (names vs) → Has vs id v → elem_at (frame x) (place_in v.name) ≡ elem_of v.ty
  elem_is id v a h =
      (λ i. elem_of_shape (shape_from (structures_are i) (shape_of (object_in (objects_are i) (object x))) (Named v.name ∷ [])))
      ∙ ap elem_of_shape (shape_known x v (member_is vs id v a h))

  -- what holds of the rows holds of the row of each variable
  pub each : (P : Row → Type 0) (ws : List TVar) → All P (map row ws) → All (λ v. P (row v)) ws
  each P [] h = All-nil (λ v. P (row v))
  each P (w ∷ ws) h = All-cons (λ v. P (row v)) w ws (All-head P (row w) (map row ws) h) (each P ws (All-tail P (row w) (map row ws) h))

  -- ---- a write to one variable

  abbrev pub IsShownIn : Store → Objects → TVar → Type 0
  IsShownIn s o v = IsShown (u x) s o (row v)

  -- where it is not forced
  abbrev written : Store → TVar → ℤ → Store
  written s v z = record { cell = put s.cell (row v).path z; force = s.force }

  abbrev set_at : Objects → TVar → ℤ → Objects
  set_at o v z = record o { val = put_at o.val (place_of (row v)) z }

  unforced : (f : Option ℤ) (z : ℤ) → is_some f ≡ false → unwrap_or f z ≡ z
  unforced None z h = refl
  unforced (Some y) z h = cc

  pub same_place_is : (v w : TVar) → same_place (place_of (row w)) (place_of (row v)) ≡ bytes_eq w.name v.name && true
  same_place_is v w = ap (λ b. b && (bytes_eq w.name v.name && true)) (bytes_eq-self (object x))

  pub same_path_is : (v w : TVar) → bytes_eq (row w).path (row v).path ≡ nat_eq w.id v.id && true
  same_path_is v w = ap (λ b. b && (nat_eq w.id v.id && true)) (nat_eq-self x.inst_id)

  one_shown : (s : Store) (o : Objects) (v : TVar) (z : ℤ) → Fits (elem_of v.ty) z → is_some (s.force (row v).path) ≡ false → IsShownIn s o v → IsShownIn (written s v z) (set_at o v z) v
  one_shown s o v z f e h = record {
    value = ap (λ b. if b then z else o.val (place_of (row v))) (same_place_is v v ∙ ap (λ b. b && true) (bytes_eq-self v.name)) ∙ sym seen;
    flag = h.flag;
    fits = subst (Fits (elem_of v.ty)) (sym seen) f;
  }
    where
      seen : see (u x) (written s v z) (row v).path ≡ z
      seen =
          unforced (s.force (row v).path) _ e
          ∙ ap (λ b. if b then z else s.cell (row v).path) (same_path_is v v ∙ ap (λ b. b && true) (nat_eq-self v.id))

  other_shown : (s : Store) (o : Objects) (v w : TVar) (z : ℤ) → Distinct w v → IsShownIn s o w → IsShownIn (written s v z) (set_at o v z) w
  other_shown s o v w z d h = record {
    value = ap (λ b. if b then z else o.val (place_of (row w))) (same_place_is v w ∙ ap (λ b. b && true) d.0) ∙ h.value ∙ sym seen;
    flag = h.flag;
    fits = subst (Fits (elem_of w.ty)) (sym seen) h.fits;
  }
    where
      seen : see (u x) (written s v z) (row w).path ≡ see (u x) s (row w).path
      seen = ap (λ b. unwrap_or (s.force (row w).path) (if b then z else s.cell (row w).path)) (same_path_is v w ∙ ap (λ b. b && true) d.1)

  module _ (apart : Apart (names vs)) (numbered : AreNumbered vs) (k : ℕ) (m : ℤ) where
    abbrev pub LikeAt : Store → Objects → Type 0
    LikeAt s o = Like (u x) s k m o

    module _ (id : ℕ) (v : TVar) (has : Has vs id v) where
      shown : (s : Store) (o : Objects) → LikeAt s o → IsShownIn s o v
      shown s o like = of_all (IsShownIn s o) vs id v has (each (IsShown (u x) s o) vs (subst (All (IsShown (u x) s o)) (rows_are x) like.shown))

      after_write : (s : Store) (o : Objects) (z : ℤ) → Fits (elem_of v.ty) z → is_some (s.force (row v).path) ≡ false → LikeAt s o → LikeAt (written s v z) (set_at o v z)
      after_write s o z f e like = record {
        shown = subst (All (IsShown (u x) (written s v z) (set_at o v z))) (sym (rows_are x))
            (All-map (IsShown (u x) (written s v z) (set_at o v z)) row vs (λ j w lt. by _ (cases j w lt) (now j w lt)));
        tick = like.tick;
        moment = like.moment;
      }
        where
          now : All (IsShownIn s o) vs
          now = each (IsShown (u x) s o) vs (subst (All (IsShown (u x) s o)) (rows_are x) like.shown)

          cases : All (OneOrApart v) vs
          cases = one_or_apart numbered.first vs id v apart numbered.from has

          by : (w : TVar) → OneOrApart v w → IsShownIn s o w → IsShownIn (written s v z) (set_at o v z) w
          by w (inl e') h = subst (IsShownIn (written s v z) (set_at o v z)) (sym e') (one_shown s o v z f e (shown s o like))
          by w (inr d) h = other_shown s o v w z d h

      like-write : (s : Store) (o : Objects) (z : ℤ) → Fits (elem_of v.ty) z → LikeAt s o → LikeAt (write (u x) s (row v).path z) (set_var o (place_of (row v)) z)
      like-write s o z f like = by (is_some (s.force (row v).path)) refl
        where
          by : (b : Bool) → is_some (s.force (row v).path) ≡ b → LikeAt (write (u x) s (row v).path z) (set_var o (place_of (row v)) z)
          by true e = let flagged : o.flag (place_of (row v)) ≡ true = (shown s o like).flag ∙ e in rw (e, flagged) like
          by false e = let flagged : o.flag (place_of (row v)) ≡ false = (shown s o like).flag ∙ e in rw (e, flagged) (after_write s o z f e like)

    -- ---- each variable is reached

    abbrev place_of_var : Option TVar → Place
    place_of_var w = place_in (name_of_var w)

    var_reached : (p : TPath) (t : TypeId) (v : TVar) → Has vs p.first v → v.ty ≡ t → IsReached (env_at x m) (frame x) LikeAt (leaf vs p.first) p t
    var_reached p t v has e =
        let elem : elem_at (frame x) (place_of_var (var_in vs p.first)) ≡ elem_of t = ap (λ w. elem_at (frame x) (place_of_var w)) has ∙ elem_is p.first v apart has ∙ ap elem_of e in
        let path : (row v).path ≡ x.inst_id ∷ p.first ∷ [] = ap (λ j. x.inst_id ∷ j ∷ []) (number_is vs p.first v has) in
        record {
          get = λ s o h n like. let is = shown p.first v has s o like in
              subst (Sim (Gives (at_work o h) (Alike (elem_of t))) (Done (see (u x) s (place (env_at x m) p)) n)) (sym (c_value-GetVar (frame x) (leaf vs p.first) (at_work o h) n))
              (both_done (record {
                value = record {
                  is = λ i. of_type (promoted (elem i)) ((ap (λ w. o.val (place_of_var w)) has ∙ is.value ∙ ap (see (u x) s) path) i);
                  fits = subst (λ q. Fits (elem_of t) (see (u x) s q)) path (subst (λ t. Fits (elem_of t) (see (u x) s (row v).path)) e is.fits);
                };
                stays = refl;
              }));
          set = λ s o h n y f like r. sim_given (at_work o h) y (c_value (frame x) f (at_work o h) n) _ _ r (λ z q j a. both_done (record {
            objects = _;
            is = refl;
            like =
                let kept : wrap (elem_at (frame x) (place_of_var (var_in vs p.first))) q.z ≡ z = (λ i. wrap (elem i) (a.is i).z) ∙ wrap-fits (elem_of t) z a.fits in
                let same : set_var o (place_of_var (var_in vs p.first)) (wrap (elem_at (frame x) (place_of_var (var_in vs p.first))) q.z) ≡ set_var o (place_of (row v)) z = λ i. set_var o (place_of_var (has i)) (kept i) in
                subst (LikeAt (write (u x) s (x.inst_id ∷ p.first ∷ []) z)) (sym same)
                (subst (λ l. LikeAt (write (u x) s l z) (set_var o (place_of (row v)) z)) path (like-write p.first v has s o z (subst (λ t. Fits (elem_of t) z) (sym e) a.fits) like));
          }));
        }

    pub reached : AreReached vs (env_at x m) (frame x) LikeAt
    reached p t typed = by (var_in vs p.first) refl
      where
        by : (w : Option TVar) → var_in vs p.first ≡ w → IsReached (env_at x m) (frame x) LikeAt (leaf vs p.first) p t
        by None e = absurd (none-some t (sym (ap type_of e) ∙ typed))
        by (Some v) e = var_reached p t v e (same_Some v.ty t (sym (ap type_of e) ∙ typed))
