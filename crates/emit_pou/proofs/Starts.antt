-- A warm start: each kept row gets the value that it showed, and no row is forced, on both sides.
use Rattle.std.proofs.Common.{◌≡◌, refl, sym, ap, subst, ◌∙◌, ℕ, suc, ◌+◌, List, [], ◌∷◌, ◌++◌, map, Bool, true, false, Some, arith}
use Rattle.std.specs.Prelude.{ℤ, pos, nat_eq, ◌&&◌, if◌then◌else◌}
use Rattle.std.specs.List.{All}
use Rattle.std.specs.Str.{bytes_eq}
use Rattle.std.proofs.lemmas.List.Elements.{All-nil, All-cons, All-head, All-tail}
use Rattle.std.proofs.lemmas.Bool.{or_parts}
use Rattle.std.proofs.lemmas.Bool.Decides.{nat_tests}
use Rattle.plc_base.specs.declared.elem.Elem.{Elem}
use Rattle.plc_base.specs.Numbers.{Fits}
use Rattle.plc_base.proofs.Bytes.{bytes_eq-self, bytes_eq-turned}
use Rattle.plc_tree.specs.declared.typed.TVar.{TVar}
use Rattle.plc_tree.specs.Store.{Store, see}
use Rattle.plc_tree.specs.Initial.{initial, init_in, is_kept, warm}
use Rattle.plc_tree.specs.Rows.{Row, rows, row_at, kept_from, kept, elem_of}
use Rattle.plc_tree.specs.WellTyped.{AreNumberedFrom, AreNumbered}
use Rattle.c_meaning.specs.Objects.{Place, Objects, same_place, force_var, released}
use Rattle.c_meaning.specs.Items.{DebugLine, lines_of}
use Rattle.c_meaning.specs.Names.{is_among, Apart}
use Rattle.c_meaning.specs.Run.{line_at, with_kept, all_kept}
use Rattle.c_tree.specs.WellSpelled.{Every}
use Rattle.emit_pou.specs.Emitted.{debug_rows_from}
use Rattle.emit_pou.specs.Single.{Single}
use Rattle.emit_pou.specs.Like.{Like, place_of}
use Rattle.emit_pou.proofs.Schedules.{nat_eq-self}
use Rattle.emit_pou.proofs.GoodNames.{rows_are}
use Rattle.emit_pou.proofs.Functions.{u}
use Rattle.emit_pou.proofs.Leaves.{names, Distinct, after, row, IsShownIn, same_place_is, same_path_is}
use Rattle.emit_pou.proofs.Debugging.{line, line_is, line_place, all_shown, shown_rows}

-- ---- the C goes through the kept rows

-- a row gets the value that it showed before, unforced
abbrev keep_row : Objects → Objects → Row → Objects
keep_row o q r = released (force_var q (place_of r) (o.val (place_of r))) (place_of r)

abbrev keep_if : Objects → Objects → Row → Objects
keep_if o q r = if r.keep then keep_row o q r else q

abbrev pub keep_rows : Objects → Objects → List Row → Objects
keep_rows o q [] = q
keep_rows o q (r ∷ rs) = keep_rows o (keep_if o q r) rs

kept_one : (ls : List DebugLine) (o q : Objects) (i : ℕ) (r : Row) → ((j : ℕ) × (line_at ls i ≡ Some (line j r))) → with_kept o q (line_at ls i) ≡ keep_row o q r
kept_one ls o q i r (j, e) = ap (with_kept o q) e ∙ ap (λ p. released (force_var q p (o.val p)) p) (line_place r)

-- the lines behind the first `from` ones are those of these rows
abbrev AreLines : List DebugLine → ℕ → List Row → Type 0
AreLines ls from rs = (i : ℕ) (r : Row) → row_at rs i ≡ Some r → (j : ℕ) × (line_at ls (from + i) ≡ Some (line j r))

lines_behind : (ls : List DebugLine) (from : ℕ) (r : Row) (rs : List Row) → AreLines ls from (r ∷ rs) → AreLines ls (from + 1) rs
lines_behind ls from r rs h i q e = let l = h (suc i) q e in let same : from + suc i ≡ from + 1 + i = omega arith in (l.0, ap (line_at ls) (sym same) ∙ l.1)

kept_rows : (ls : List DebugLine) (o q : Objects) (from : ℕ) (rs : List Row) → AreLines ls from rs → all_kept ls o q (kept_from from rs) ≡ keep_rows o q rs
kept_rows ls o q from [] h = refl
kept_rows ls o q from (r ∷ rs) h = by r.keep (λ p. kept_rows ls o p (from + 1) rs (lines_behind ls from r rs h))
  where
    first : with_kept o q (line_at ls from) ≡ keep_row o q r
    first = let l = h 0 r refl in let same : from + 0 ≡ from = omega arith in kept_one ls o q from r (l.0, ap (line_at ls) (sym same) ∙ l.1)

    by : (b : Bool) → ((p : Objects) → all_kept ls o p (kept_from (from + 1) rs) ≡ keep_rows o p rs)
        → all_kept ls o q (if b then from ∷ kept_from (from + 1) rs else kept_from (from + 1) rs) ≡ keep_rows o (if b then keep_row o q r else q) rs
    by true rest = ap (λ p. all_kept ls o p (kept_from (from + 1) rs)) first ∙ rest (keep_row o q r)
    by false rest = rest q

-- ---- what that leaves

keep_flag : (o q : Objects) (r : Row) (p : Place) → q.flag p ≡ false → (keep_if o q r).flag p ≡ false
keep_flag o q r p h = by r.keep
  where
    cleared : (b : Bool) → (if b then false else if b then true else q.flag p) ≡ false
    cleared true = refl
    cleared false = h

    by : (b : Bool) → (if b then keep_row o q r else q).flag p ≡ false
    by true = cleared (same_place p (place_of r))
    by false = h

all_clear : (o q : Objects) (rs : List Row) (p : Place) → q.flag p ≡ false → (keep_rows o q rs).flag p ≡ false
all_clear o q [] p h = h
all_clear o q (r ∷ rs) p h = all_clear o (keep_if o q r) rs p (keep_flag o q r p h)

keep_rest : (o q : Objects) (rs : List Row) → ((keep_rows o q rs).tick ≡ q.tick) × ((keep_rows o q rs).moment ≡ q.moment)
keep_rest o q [] = (refl, refl)
keep_rest o q (r ∷ rs) = let h = keep_rest o (keep_if o q r) rs in let k = one r.keep in (h.0 ∙ k.0, h.1 ∙ k.1)
  where
    one : (b : Bool) → ((if b then keep_row o q r else q).tick ≡ q.tick) × ((if b then keep_row o q r else q).moment ≡ q.moment)
    one true = (refl, refl)
    one false = (refl, refl)

module _ (x : Single) where
  abbrev vs : List TVar
  vs = x.pou.vars

  abbrev val_of : Objects → TVar → ℤ
  val_of o v = o.val (place_of (row x v))

  -- another variable's value stays
  kept_apart : (o q : Objects) (v w : TVar) → bytes_eq v.name w.name ≡ false → val_of (keep_if o q (row x v)) w ≡ val_of q w
  kept_apart o q v w h = by (row x v).keep
    where
      by : (b : Bool) → val_of (if b then keep_row o q (row x v) else q) w ≡ val_of q w
      by true = ap (λ t. if t then val_of o v else val_of q w) (same_place_is x v w ∙ ap (λ t. t && true) (bytes_eq-turned v.name w.name h))
      by false = refl

  kept_here : (o q : Objects) (v : TVar) → val_of (keep_if o q (row x v)) v ≡ (if (row x v).keep then val_of o v else val_of q v)
  kept_here o q v = by (row x v).keep
    where
      by : (b : Bool) → val_of (if b then keep_row o q (row x v) else q) v ≡ (if b then val_of o v else val_of q v)
      by true = ap (λ t. if t then val_of o v else val_of q v) (same_place_is x v v ∙ ap (λ t. t && true) (bytes_eq-self v.name))
      by false = refl

  kept_later : (o q : Objects) (ws : List TVar) (v : TVar) → is_among v.name (names ws) ≡ false → val_of (keep_rows o q (map (row x) ws)) v ≡ val_of q v
  kept_later o q [] v h = refl
  kept_later o q (w ∷ ws) v h =
      let p = or_parts (bytes_eq w.name v.name) (is_among v.name (names ws)) h in kept_later o (keep_if o q (row x w)) ws v p.1 ∙ kept_apart o q w v p.0

  abbrev IsKept : Objects → Objects → Objects → TVar → Type 0
  IsKept o q p v = val_of p v ≡ (if (row x v).keep then val_of o v else val_of q v)

  -- from objects that differ at a variable that is none of these
  moved : (o q q2 p : Objects) (v : TVar) (ws : List TVar) → ((w : TVar) → bytes_eq v.name w.name ≡ false → val_of q2 w ≡ val_of q w) → is_among v.name (names ws) ≡ false
      → Every (IsKept o q2 p) ws → Every (IsKept o q p) ws
  moved o q q2 p v [] same h e = tt
  moved o q q2 p v (w ∷ ws) same h e =
      let a = or_parts (bytes_eq w.name v.name) (is_among v.name (names ws)) h in
      (e.0 ∙ ap (λ z. if (row x w).keep then val_of o w else z) (same w (bytes_eq-turned w.name v.name a.0)), moved o q q2 p v ws same a.1 e.1)

  all_are_kept : (o q : Objects) (ws : List TVar) → Apart (names ws) → Every (IsKept o q (keep_rows o q (map (row x) ws))) ws
  all_are_kept o q [] a = tt
  all_are_kept o q (v ∷ ws) a =
      let q2 = keep_if o q (row x v) in (
        kept_later o q2 ws v a.0 ∙ kept_here o q v,
        moved o q q2 (keep_rows o q2 (map (row x) ws)) v ws (λ w h. kept_apart o q v w h) a.0 (all_are_kept o q2 ws a.1),
      )

  -- ---- the source looks each row up by its path

  abbrev IsKeptIn : List TVar → TVar → Type 0
  IsKeptIn ws v = is_kept (map (row x) ws) (row x v).path ≡ (row x v).keep

  found_later : (v : TVar) (ws us : List TVar) → All (λ w. Distinct w v) us → Every (IsKeptIn ws) us → Every (IsKeptIn (v ∷ ws)) us
  found_later v ws [] d h = tt
  found_later v ws (w ∷ us) d h =
      let e : nat_eq w.id v.id ≡ false = (All-head (λ w. Distinct w v) w us d).1 in
      let f : nat_eq v.id w.id ≡ false = grind (arith, nat_tests) in
      (ap (λ b. if b then (row x v).keep else is_kept (map (row x) ws) (row x w).path) (same_path_is x w v ∙ ap (λ b. b && true) f) ∙ h.0, found_later v ws us (All-tail (λ w. Distinct w v) w us d) h.1)

  all_found : (k : ℕ) (ws : List TVar) → Apart (names ws) → AreNumberedFrom k ws → Every (IsKeptIn ws) ws
  all_found k [] a n = tt
  all_found k (v ∷ ws) a n =
      let is : v.id ≡ k = n.0 in (
        ap (λ b. if b then (row x v).keep else is_kept (map (row x) ws) (row x v).path) (same_path_is x v v ∙ ap (λ b. b && true) (nat_eq-self v.id)),
        found_later v ws ws (after v (k + 1) ws (omega (arith, is)) a.0 n.1) (all_found (k + 1) ws a.1 n.1),
      )

  -- ---- together

  choose : (t : Elem) (b : Bool) (y z : ℤ) → Fits t y → Fits t z → Fits t (if b then y else z)
  choose t true y z f g = f
  choose t false y z f g = g

  module _ (apart : Apart (names vs)) (numbered : AreNumbered vs) (s : Store) (o q : Objects) (k : ℕ) (m : ℤ) (like : Like (u x) s k m o) (begun : Like (u x) (initial (u x)) 0 (pos 0) q) where
    lines : AreLines (lines_of (debug_rows_from 0 (rows (u x)) ++ [])) 0 (rows (u x))
    lines i r h =
        let l = line_is 0 (rows (u x)) i r h in
        let same : 0 + i ≡ i = omega arith in
        (l.0, ap (line_at (lines_of (debug_rows_from 0 (rows (u x)) ++ []))) same ∙ l.1)

    abbrev final : Objects
    final = keep_rows o q (rows (u x))

    shown_in : (ws : List TVar) → Every (IsKept o q final) ws → Every (IsKeptIn vs) ws → All (IsShownIn x s o) ws → All (IsShownIn x (initial (u x)) q) ws
        → ((p : Place) → final.flag p ≡ false) → All (IsShownIn x (warm (u x) s) final) ws
    shown_in [] values found before now clear = All-nil (IsShownIn x (warm (u x) s) final)
    shown_in (v ∷ ws) values found before now clear =
        let b = All-head (IsShownIn x s o) v ws before in
        let n = All-head (IsShownIn x (initial (u x)) q) v ws now in
        let path = (row x v).path in
        let keeps : is_kept (rows (u x)) path ≡ (row x v).keep = subst (λ rs. is_kept rs path ≡ (row x v).keep) (sym (rows_are x)) found.0 in
        let seen : see (u x) (warm (u x) s) path ≡ (if (row x v).keep then see (u x) s path else init_in (rows (u x)) path) =
        ap (λ t. if t then see (u x) s path else init_in (rows (u x)) path) keeps in
        All-cons (IsShownIn x (warm (u x) s) final) v ws (record {
          value = values.0 ∙ (λ i. if (row x v).keep then b.value i else n.value i) ∙ sym seen;
          flag = clear (place_of (row x v));
          fits = subst (Fits (elem_of v.ty)) (sym seen) (choose (elem_of v.ty) (row x v).keep (see (u x) s path) (init_in (rows (u x)) path) b.fits n.fits);
        }) (shown_in ws values.1 found.1 (All-tail (IsShownIn x s o) v ws before) (All-tail (IsShownIn x (initial (u x)) q) v ws now) clear)

    pub like-warm : ((p : Place) → q.flag p ≡ false) → Like (u x) (warm (u x) s) 0 (pos 0) (all_kept (lines_of (debug_rows_from 0 (rows (u x)) ++ [])) o q (kept (u x)))
    like-warm clear =
        subst (Like (u x) (warm (u x) s) 0 (pos 0)) (sym (kept_rows (lines_of (debug_rows_from 0 (rows (u x)) ++ [])) o q 0 (rows (u x)) lines))
        (record {
          shown = shown_rows x (warm (u x) s) final
              (shown_in vs (subst (λ rs. Every (IsKept o q (keep_rows o q rs)) vs) (sym (rows_are x)) (all_are_kept o q vs apart)) (all_found numbered.first vs apart numbered.from)
              (all_shown x s o like.shown) (all_shown x (initial (u x)) q begun.shown) (λ p. all_clear o q (rows (u x)) p (clear p)));
          tick = (keep_rest o q (rows (u x))).0 ∙ begun.tick;
          moment = (keep_rest o q (rows (u x))).1 ∙ begun.moment;
        })
