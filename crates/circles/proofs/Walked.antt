-- Steps of a walk, and its end.
use Rattle.std.proofs.Common.{◌≡◌, refl, sym, ap, subst, ◌∙◌, ℕ, suc, ◌+◌, ◌-◌, ◌<◌, ◌≤◌, ◌⊎◌, inl, inr, List, [], ◌∷◌, ◌++◌, length, get_or, set, true, false, cond, arith}
use Rattle.std.specs.Prelude.{nat_eq, ◌&&◌}
use Rattle.std.specs.List.{count_by, list_any, list_all}
use Rattle.std.proofs.lemmas.Grind.{common_steps}
use Rattle.std.proofs.lemmas.Bool.{eqb-true}
use Rattle.std.proofs.lemmas.Bool.Decides.{nat_tests}
use Rattle.std.proofs.lemmas.List.Folds.{sum_by-zero}
use Rattle.circles.specs.Needs.{needs_of, needs, Path}
use Rattle.circles.specs.Walk.{new, open_mark, IsWalk, IsWalked, Goes, Opens, Finishes, Steps, left}
use Rattle.circles.specs.declared.walk.Walk.{Walk}
use Rattle.circles.proofs.Paths.{any_index, index_any}
use Rattle.circles.proofs.Walks.{Seen, fewer, as_many, grown_end, grown_length, looks, opened, closed}

same_walk : (g : List (List ℕ)) (a b c d w x y z : List ℕ) → w ≡ a → x ≡ b → y ≡ c → z ≡ d → IsWalk g a b c d → IsWalk g w x y z
same_walk g a b c d w x y z e f h i s =
    subst (λ t. IsWalk g t x y z) (sym e) (subst (λ t. IsWalk g a t y z) (sym f) (subst (λ t. IsWalk g a b t z) (sym h) (subst (λ t. IsWalk g a b c t) (sym i) s)))

-- ---- what was looked at

pub look_further : (g : List (List ℕ)) (place : List ℕ) (a from next : ℕ) → length place ≡ length g → Seen g place from a
    → ((i : ℕ) → from ≤ i → i < next → i < length (needs_of g a) → get_or (needs_of g a) i 0 < length place → get_or place (get_or (needs_of g a) i 0) 0 ≡ new → ⊥)
    → Seen g place next a
look_further g place a from next sized before passed i it il ig e = by (place_of i from)
  where
    place_of : (x y : ℕ) → (x < y) ⊎ (y ≤ x)
    place_of x y = grind arith

    by : (i < from) ⊎ (from ≤ i) → ⊥
    by (inl lt) = before i lt il ig e
    by (inr le) = passed i le it il (omega (arith, sized)) e

pub all_seen : (g : List (List ℕ)) (place : List ℕ) (n a : ℕ) → Seen g place n a → length (needs_of g a) ≤ n → (b : ℕ) → b < length g → needs g a b ≡ true → get_or place b 0 ≡ new → ⊥
all_seen g place n a seen le b bg h e =
    let w = any_index (needs_of g a) b h in
    seen w.0 (omega (arith, w.1)) w.1 (subst (λ z. z < length g) (sym w.2) bg) (subst (λ z. get_or place z 0 ≡ new) (sym w.2) e)

-- ---- steps of the code's walk

pub opens_on : (g : List (List ℕ)) (w v : Walk) (b : ℕ) → b < length g → get_or w.place.items b 0 ≡ new
    → ((k : ℕ) → k + 1 ≡ length w.stack.items → needs g (get_or w.stack.items k 0) b ≡ true) → Goes g w → Opens b w v → Goes g v
opens_on g w v b lt was follows goes o =
    same_walk g w.order.items (set w.place.items b open_mark) (w.stack.items ++ b ∷ []) (w.at.items ++ 0 ∷ []) v.order.items v.place.items v.stack.items v.at.items o.order o.place o.stack o.at
    (opened g w.order.items w.place.items w.stack.items w.at.items goes b lt was follows)

pub opens_falls : (w v : Walk) (b : ℕ) → b < length w.place.items → get_or w.place.items b 0 ≡ new → Opens b w v → left v < left w
opens_falls w v b lt was o =
    let e = fewer w.place.items b open_mark lt was (omega arith) in
    let p = ap (count_by (nat_eq new)) o.place in
    let s = ap length o.stack in
    omega (arith, e, p, s, grown_length w.stack.items b)

pub finishes_on : (g : List (List ℕ)) (w v : Walk) (a : ℕ) → get_or w.stack.items (length w.stack.items - 1) 0 ≡ a
    → ((b : ℕ) → b < length g → needs g a b ≡ true → get_or w.place.items b 0 ≡ new → ⊥) → Goes g w → Finishes w v → Goes g v
finishes_on g w v a is done goes f =
    let long = ap length f.stack in
    let same : a ≡ f.node = sym is ∙ ap (λ s. get_or s (length w.stack.items - 1) 0) f.stack ∙ grown_end v.stack.items f.node (length w.stack.items - 1) (omega (arith, long, grown_length v.stack.items f.node)) in
    let before = same_walk g w.order.items w.place.items w.stack.items w.at.items w.order.items w.place.items (v.stack.items ++ f.node ∷ []) (v.at.items ++ f.seen ∷ []) refl refl (sym f.stack) (sym f.at) goes in
    same_walk g (w.order.items ++ f.node ∷ []) (set w.place.items f.node (length w.order.items)) v.stack.items v.at.items v.order.items v.place.items v.stack.items v.at.items f.order f.place refl refl
    (closed g w.order.items w.place.items v.stack.items v.at.items f.node f.seen before (subst (λ z. (b : ℕ) → b < length g → needs g z b ≡ true → get_or w.place.items b 0 ≡ new → ⊥) same done))

pub finishes_falls : (g : List (List ℕ)) (w v : Walk) → Goes g w → Finishes w v → left v < left w
finishes_falls g w v goes f =
    let long = ap length f.stack in
    let at_top : get_or w.stack.items (length w.stack.items - 1) 0 ≡ f.node = ap (λ s. get_or s (length w.stack.items - 1) 0) f.stack ∙ grown_end v.stack.items f.node (length w.stack.items - 1) (omega (arith, long, grown_length v.stack.items f.node)) in
    let up = goes.stacked (length w.stack.items - 1) (omega (arith, long, grown_length v.stack.items f.node)) in
    let top = subst (λ z. (z < length g) × (get_or w.place.items z 0 ≡ open_mark)) at_top up in
    let c = goes.counted in
    let e = as_many w.place.items f.node (length w.order.items) (omega (arith, top.0, goes.sized)) (omega (arith, top.1)) (omega (arith, c)) in
    let p = ap (count_by (nat_eq new)) f.place in
    omega (arith, e, p, long, grown_length v.stack.items f.node)

-- ---- a step, by what its calls tell

pub same_get : (xs : List ℕ) (k x : ℕ) → k < length xs → x ≡ get_or xs k x → x ≡ get_or xs k 0
same_get xs k x lt e = grind (arith, common_steps)

-- the node on top, the row that it needs, and how far its needs were looked at
pub record AtTop (g : List (List ℕ)) (w : Walk) (k from node : ℕ) (row place : List ℕ) : Type 0 where
  pub top : k + 1 ≡ length w.stack.items
  pub node_is : node ≡ get_or w.stack.items k node
  pub row_is : row ≡ needs_of g node
  pub from_is : from ≡ get_or w.at.items k from
  pub place_is : place ≡ w.place.items

module _ (g : List (List ℕ)) (w u v : Walk) (k from node next : ℕ) (row place : List ℕ) (t : AtTop g w k from node row place) (goes : Goes g w)
    (order_is : u.order.items ≡ w.order.items) (place_is : u.place.items ≡ w.place.items) (stack_is : u.stack.items ≡ w.stack.items) (at_is : u.at.items ≡ set w.at.items k next)
    (passed : (i : ℕ) → from ≤ i → i < next → i < length row → get_or row i 0 < length place → get_or place (get_or row i 0) 0 ≡ new → ⊥) where
  node_at : node ≡ get_or w.stack.items k 0
  node_at = same_get w.stack.items k node (omega (arith, t.top)) t.node_is

  row_at : row ≡ needs_of g (get_or w.stack.items k 0)
  row_at = t.row_is ∙ ap (needs_of g) node_at

  seen : Seen g w.place.items next (get_or w.stack.items k 0)
  seen =
      let from_at = same_get w.at.items k from (omega (arith, t.top, goes.paired)) t.from_is in
      let before : Seen g w.place.items from (get_or w.stack.items k 0) = subst (λ n. Seen g w.place.items n (get_or w.stack.items k 0)) (sym from_at) (goes.looked k (omega (arith, t.top))) in
      look_further g w.place.items (get_or w.stack.items k 0) from next goes.sized before
      (subst (λ r. (i : ℕ) → from ≤ i → i < next → i < length r → get_or r i 0 < length w.place.items → get_or w.place.items (get_or r i 0) 0 ≡ new → ⊥) row_at
      (subst (λ p. (i : ℕ) → from ≤ i → i < next → i < length row → get_or row i 0 < length p → get_or p (get_or row i 0) 0 ≡ new → ⊥) t.place_is passed))

  further : Goes g u
  further = same_walk g w.order.items w.place.items w.stack.items (set w.at.items k next) u.order.items u.place.items u.stack.items u.at.items order_is place_is stack_is at_is
      (looks g w.order.items w.place.items w.stack.items w.at.items goes k next (omega (arith, t.top)) seen)

  pub step_opens : next < length row → (get_or row next 0 < length place) × (get_or place (get_or row next 0) 0 ≡ new) → Opens (get_or row next 0) u v → Steps g w v
  step_opens lt met o =
      let was : get_or u.place.items (get_or row next 0) 0 ≡ new = ap (λ p. get_or p (get_or row next 0) 0) (place_is ∙ sym t.place_is) ∙ met.1 in
      let long = ap length t.place_is in
      let wide = ap length place_is in
      let e = ap length stack_is in
      let f = ap (count_by (nat_eq new)) place_is in
      record {
        goes = opens_on g u v (get_or row next 0) (omega (arith, met.0, goes.sized, long)) was follows further o;
        falls = omega (arith, opens_falls u v (get_or row next 0) (omega (arith, met.0, goes.sized, long, wide)) was o, e, f);
      }
    where
      follows : (j : ℕ) → j + 1 ≡ length u.stack.items → needs g (get_or u.stack.items j 0) (get_or row next 0) ≡ true
      follows j e =
          let long = ap length stack_is in
          let jk : j ≡ k = omega (arith, t.top) in
          let same : get_or u.stack.items j 0 ≡ get_or w.stack.items k 0 = ap (λ s. get_or s j 0) stack_is ∙ ap (λ z. get_or w.stack.items z 0) jk in
          subst (λ a. needs g a (get_or row next 0) ≡ true) (sym same)
          (subst (λ r. list_any (nat_eq (get_or row next 0)) r ≡ true) row_at (index_any row next lt))

  pub step_finishes : length row ≤ next → Finishes u v → Steps g w v
  step_finishes le f =
      let long = ap length stack_is in
      let counts = ap (count_by (nat_eq new)) place_is in
      let last : k ≡ length u.stack.items - 1 = omega (arith, t.top) in
      let top : get_or u.stack.items (length u.stack.items - 1) 0 ≡ get_or w.stack.items k 0 = ap (λ z. get_or u.stack.items z 0) (sym last) ∙ ap (λ s. get_or s k 0) stack_is in
      let few : length (needs_of g (get_or w.stack.items k 0)) ≤ next = subst (λ r. length r ≤ next) row_at le in
      record {
        goes = finishes_on g u v (get_or w.stack.items k 0) top
            (λ b bg h e. all_seen g w.place.items next (get_or w.stack.items k 0) seen few b bg h (ap (λ p. get_or p b 0) (sym place_is) ∙ e)) further f;
        falls = omega (arith, finishes_falls g u v further f, long, counts);
      }

-- ---- the end

all_met : (place : List ℕ) → ((a : ℕ) → a < length place → get_or place a 0 ≡ new → ⊥) → list_all (λ x. nat_eq (cond (nat_eq new x) 1 0) 0) place ≡ true
all_met [] h = refl
all_met (x ∷ xs) h =
    let off : nat_eq new x ≡ false = grind (arith, nat_tests, h 0) in
    let rest = all_met xs (λ a lt. h (suc a) (omega arith)) in
    ap (λ t. nat_eq (cond t 1 0) 0 && list_all (λ y. nat_eq (cond (nat_eq new y) 1 0) 0) xs) off ∙ rest

none_left : (place : List ℕ) → ((a : ℕ) → a < length place → get_or place a 0 ≡ new → ⊥) → count_by (nat_eq new) place ≡ 0
none_left place h = eqb-true (count_by (nat_eq new) place) 0 (sum_by-zero (λ x. cond (nat_eq new x) 1 0) place ∙ all_met place h)

pub walked : (g : List (List ℕ)) (w : Walk) → Goes g w → length w.stack.items ≡ 0 → ((a : ℕ) → a < length g → get_or w.place.items a 0 ≡ new → ⊥) → IsWalked g w.order.items w.place.items
walked g w goes rests met = record {
  few = goes.few;
  sized = goes.sized;
  whole = omega (arith, goes.counted, none_left w.place.items (λ a lt. met a (omega (arith, goes.sized))));
  placed = goes.placed;
  found = λ a lt. goes.found a lt (low a lt (side (get_or w.place.items a 0)));
  behind = λ a b x al bl xl n le less.
      let ra = goes.found a al (low a al (side (get_or w.place.items a 0))) in
      let rx = goes.found x xl (low x xl (side (get_or w.place.items x 0))) in
      subst (λ z. Path g b z) rx.1 (goes.behind (get_or w.place.items a 0) ra.0 b bl (subst (λ z. needs g z b ≡ true) (sym ra.1) n) (get_or w.place.items x 0) le rx.0 less);
}
  where
    side : (x : ℕ) → (x < open_mark) ⊎ (open_mark ≤ x)
    side x = grind arith

    low : (a : ℕ) → a < length g → (get_or w.place.items a 0 < open_mark) ⊎ (open_mark ≤ get_or w.place.items a 0) → get_or w.place.items a 0 < open_mark
    low a lt (inl lo) = lo
    low a lt (inr hi) = by (either (get_or w.place.items a 0) hi (goes.marked a lt))
      where
        either : (x : ℕ) → open_mark ≤ x → x ≤ new → (x ≡ open_mark) ⊎ (x ≡ new)
        either x h k = grind arith

        by : (get_or w.place.items a 0 ≡ open_mark) ⊎ (get_or w.place.items a 0 ≡ new) → get_or w.place.items a 0 < open_mark
        by (inl e) = let s = goes.stands a lt e in absurd (omega (arith, s.1, rests))
        by (inr e) = absurd (met a lt e)
