-- Nodes are gathered under one number where they lead to one another.
use Rattle.std.proofs.Common.{◌≡◌, refl, sym, ap, subst, ◌∙◌, ℕ, zero, suc, ◌+◌, ◌<◌, ◌≤◌, ◌≢◌, ◌⊎◌, inl, inr, List, [], ◌∷◌, ◌++◌, length, get_or, take, set, true, false, arith, length-set}
use Rattle.std.specs.Prelude.{nat_eq}
use Rattle.std.specs.List.{list_any}
use Rattle.std.proofs.lemmas.Bool.{eqb-true, eq-eqb}
use Rattle.std.proofs.lemmas.List.Folds.{list_any_more, list_any_kept}
use Rattle.circles.specs.Needs.{needs_of, needs, ReachesIn, Reaches}
use Rattle.circles.specs.Walk.{new, IsWalked}
use Rattle.circles.specs.Reversed.{IsReversed}
use Rattle.circles.specs.Gathered.{given, IsGathering, TakesIn}
use Rattle.circles.proofs.Paths.{needs_below, joined, path_step, one_need, or_cases, or_right}
use Rattle.circles.proofs.Walks.{fewer, grown_old, grown_end, grown_length, set_at, set_off, same_or, end_or}

-- ---- those of a row

pub same_takes : (row : List ℕ) (number : ℕ) (under queue later longer soon more : List ℕ) → soon ≡ later → more ≡ longer → TakesIn row number under queue later longer → TakesIn row number under queue soon more
same_takes row number under queue later longer soon more e f t = subst (λ z. TakesIn row number under queue z more) (sym e) (subst (λ z. TakesIn row number under queue later z) (sym f) t)

module _ (row under queue later longer : List ℕ) (number i x : ℕ) (t : TakesIn (take i row) number under queue later longer) (lt : i < length row) (is : x ≡ get_or row i 0) where
  in_more : (a : ℕ) → list_any (nat_eq a) (take (i + 1) row) ≡ true → (list_any (nat_eq a) (take i row) ≡ true) ⊎ (a ≡ x)
  in_more a h = by (or_cases (list_any (nat_eq a) (take i row)) (nat_eq a (get_or row i 0)) (sym (list_any_more (nat_eq a) row i 0 lt) ∙ h))
    where
      by : (list_any (nat_eq a) (take i row) ≡ true) ⊎ ((list_any (nat_eq a) (take i row) ≡ false) × (nat_eq a (get_or row i 0) ≡ true)) → (list_any (nat_eq a) (take i row) ≡ true) ⊎ (a ≡ x)
      by (inl e) = inl e
      by (inr e) = inr (eqb-true a (get_or row i 0) e.1 ∙ sym is)

  last_in : (a : ℕ) → a ≡ x → list_any (nat_eq a) (take (i + 1) row) ≡ true
  last_in a e = list_any_more (nat_eq a) row i 0 lt ∙ or_right (list_any (nat_eq a) (take i row)) (nat_eq a (get_or row i 0)) (eq-eqb a (get_or row i 0) (e ∙ is))

  pub takes_skip : (length later ≤ x) ⊎ given later x → TakesIn (take (i + 1) row) number under queue later longer
  takes_skip off = record {
    sized = t.sized;
    counted = t.counted;
    kept = t.kept;
    taken = took;
    fresh = λ a e h. let f = t.fresh a e h in (f.0, list_any_kept (nat_eq a) row i f.1, f.2);
    grows = t.grows;
    stays = t.stays;
    joins = t.joins;
  }
    where
      took : (a : ℕ) → a < length under → list_any (nat_eq a) (take (i + 1) row) ≡ true → given later a
      took a al h = by (in_more a h) off
        where
          by : (list_any (nat_eq a) (take i row) ≡ true) ⊎ (a ≡ x) → (length later ≤ x) ⊎ given later x → given later a
          by (inl e) o = t.taken a al e
          by (inr e) (inl le) = absurd (omega (arith, t.sized))
          by (inr e) (inr g) = λ q. g (ap (λ z. get_or later z 0) (sym e) ∙ q)

  pub takes_one : number < new → x < length later → get_or later x 0 ≡ new → TakesIn (take (i + 1) row) number under queue (set later x number) (longer ++ x ∷ [])
  takes_one low within was = record {
    sized = length-set later x number ∙ t.sized;
    counted = omega (arith, fewer later x number within was low, grown_length longer x, t.counted);
    kept = keep;
    taken = took;
    fresh = freshly;
    grows = omega (arith, t.grows, grown_length longer x);
    stays = λ k h. grown_old longer x k (omega (arith, t.grows)) ∙ t.stays k h;
    joins = join_up;
  }
    where
      here : (a : ℕ) → a ≡ x → get_or (set later x number) a 0 ≡ number
      here a e = set_at later x a number within e

      away : (a : ℕ) → a ≢ x → get_or (set later x number) a 0 ≡ get_or later a 0
      away a ne = set_off later x a number ne

      keep : (a : ℕ) → given under a → get_or (set later x number) a 0 ≡ get_or under a 0
      keep a h =
          let k = t.kept a h in
          let ne : a ≢ x = λ e. h (sym k ∙ ap (λ z. get_or later z 0) e ∙ was) in
          away a ne ∙ k

      took : (a : ℕ) → a < length under → list_any (nat_eq a) (take (i + 1) row) ≡ true → given (set later x number) a
      took a al h = by (same_or a x) (in_more a h)
        where
          by : (a ≡ x) ⊎ (a ≢ x) → (list_any (nat_eq a) (take i row) ≡ true) ⊎ (a ≡ x) → given (set later x number) a
          by (inl e) o = λ q. absurd (omega (arith, here a e))
          by (inr ne) (inl h) = λ q. t.taken a al h (sym (away a ne) ∙ q)
          by (inr ne) (inr e) = absurd (ne e)

      freshly : (a : ℕ) → get_or under a 0 ≡ new → given (set later x number) a → (get_or (set later x number) a 0 ≡ number) × (list_any (nat_eq a) (take (i + 1) row) ≡ true) × ((k : ℕ) × (length queue ≤ k) × (k < length (longer ++ x ∷ [])) × (get_or (longer ++ x ∷ []) k 0 ≡ a))
      freshly a e h = by (same_or a x)
        where
          by : (a ≡ x) ⊎ (a ≢ x) → (get_or (set later x number) a 0 ≡ number) × (list_any (nat_eq a) (take (i + 1) row) ≡ true) × ((k : ℕ) × (length queue ≤ k) × (k < length (longer ++ x ∷ [])) × (get_or (longer ++ x ∷ []) k 0 ≡ a))
          by (inl q) = (here a q, last_in a q, (length longer, t.grows, omega (arith, grown_length longer x), grown_end longer x (length longer) refl ∙ sym q))
          by (inr ne) =
              let f = t.fresh a e (λ q. h (away a ne ∙ q)) in
              (away a ne ∙ f.0, list_any_kept (nat_eq a) row i f.1, (f.2.0, f.2.1, omega (arith, f.2.2, grown_length longer x), grown_old longer x f.2.0 f.2.2 ∙ f.2.3))

      join_up : (k : ℕ) → length queue ≤ k → k < length (longer ++ x ∷ []) → (get_or (longer ++ x ∷ []) k 0 < length under) × (get_or (set later x number) (get_or (longer ++ x ∷ []) k 0) 0 ≡ number)
      join_up k le h = by (end_or (length longer) k (omega (arith, grown_length longer x)))
        where
          by : (k < length longer) ⊎ (k ≡ length longer) → (get_or (longer ++ x ∷ []) k 0 < length under) × (get_or (set later x number) (get_or (longer ++ x ∷ []) k 0) 0 ≡ number)
          by (inl kl) =
              let j = t.joins k le kl in
              let ne : get_or longer k 0 ≢ x = λ e. let f = ap (λ z. get_or later z 0) e in absurd (omega (arith, f, j.1)) in
              subst (λ z. (z < length under) × (get_or (set later x number) z 0 ≡ number)) (sym (grown_old longer x k kl)) (j.0, away (get_or longer k 0) ne ∙ j.1)
          by (inr e) = subst (λ z. (z < length under) × (get_or (set later x number) z 0 ≡ number)) (sym (grown_end longer x k e)) (omega (arith, t.sized), here x refl)

-- ---- what leads to a node and finishes no later is reached from it

step_on : (g : List (List ℕ)) (a c b : ℕ) → needs g a c ≡ true → Reaches g c b → Reaches g a b
step_on g a c b h r = joined g a c b (one_need g a c h) r

reach_below : (n : ℕ) (g : List (List ℕ)) (a b : ℕ) → b < length g → ReachesIn n g a b → a < length g
reach_below zero g a b lt e = omega arith
reach_below (suc n) g a b lt r = needs_below g a r.0 r.1

pub or_less : (x y : ℕ) → (x ≤ y) ⊎ (y < x)
or_less x y = grind arith

module _ (g : List (List ℕ)) (order place : List ℕ) (w : IsWalked g order place) where
  between : (n a r x : ℕ) → r < length g → x < length g → ReachesIn n g a r → get_or place a 0 ≤ get_or place x 0 → get_or place x 0 < get_or place r 0 → Reaches g a x
  between zero a r x rl xl e le lt = let f = ap (λ z. get_or place z 0) e in absurd (omega arith)
  between (suc n) a r x rl xl h le lt = by (λ before. between n h.0 r x rl xl h.2 before lt) (or_less (get_or place h.0 0) (get_or place x 0))
    where
      by : (get_or place h.0 0 ≤ get_or place x 0 → Reaches g h.0 x) → (get_or place h.0 0 ≤ get_or place x 0) ⊎ (get_or place x 0 < get_or place h.0 0) → Reaches g a x
      by further (inl before) = step_on g a h.0 x h.1 (further before)
      by further (inr past) = step_on g a h.0 x h.1 (path_step g h.0 x (w.behind a h.0 x (needs_below g a h.0 h.1) (reach_below n g h.0 r rl h.2) xl h.1 le past))

  back : (a v r : ℕ) → a < length g → v < length g → r < length g → needs g a v ≡ true → Reaches g v r → Reaches g r v → get_or place a 0 ≤ get_or place r 0 → Reaches g r a
  back a v r al vl rl h to from le = by (or_less (get_or place v 0) (get_or place a 0)) (or_less (get_or place r 0) (get_or place a 0))
    where
      by : (get_or place v 0 ≤ get_or place a 0) ⊎ (get_or place a 0 < get_or place v 0) → (get_or place r 0 ≤ get_or place a 0) ⊎ (get_or place a 0 < get_or place r 0) → Reaches g r a
      by (inr past) o = joined g r v a from (path_step g v a (w.behind a v a al vl al h (omega arith) past))
      by (inl before) (inr lt) = joined g r v a from (between to.0 v r a rl al to.1 before lt)
      by (inl before) (inl ge) =
          let same : get_or place r 0 ≡ get_or place a 0 = omega arith in
          (0, sym (w.found r rl).1 ∙ ap (λ z. get_or order z 0) same ∙ (w.found a al).1)

  -- ---- what leads to the node at the head of the queue

  pub gathers_more : (h : List (List ℕ)) (under queue later longer : List ℕ) (head p v : ℕ) (row : List ℕ) → p < length order → IsReversed g h → head < length queue → v ≡ get_or queue head 0 → row ≡ needs_of h v
      → IsGathering g order place under queue head p → TakesIn row p under queue later longer → IsGathering g order place later longer (head + 1) p
  gathers_more h under queue later longer head p v row pl rev hl v_is row_is s t = record {
    sized = t.sized ∙ s.sized;
    above = high;
    linked = link;
    covered = λ a lt le. still a (s.covered a lt le);
    queued = wait;
    closed = close;
  }
    where
      low : p < new
      low = omega (arith, w.whole, w.few)

      still : (a : ℕ) → given under a → given later a
      still a k q = k (sym (t.kept a k) ∙ q)

      node : (v < length g) × (get_or under v 0 ≡ p)
      node = subst (λ z. (z < length g) × (get_or under z 0 ≡ p)) (sym v_is) (s.queued head (omega arith) hl)

      given_v : given under v
      given_v q = absurd (omega (arith, node.1))

      -- what needs the node stands in the row
      in_row : (a : ℕ) → list_any (nat_eq a) row ≡ needs g a v
      in_row a = ap (list_any (nat_eq a)) row_is ∙ rev.turned v a node.0

      is_given : (a : ℕ) → (get_or under a 0 ≡ new) ⊎ given under a
      is_given a = same_or (get_or under a 0) new

      high : (a : ℕ) → a < length g → given later a → p ≤ get_or later a 0
      high a lt k = by (is_given a)
        where
          by : (get_or under a 0 ≡ new) ⊎ given under a → p ≤ get_or later a 0
          by (inl e) = omega (arith, (t.fresh a e k).0)
          by (inr o) = omega (arith, t.kept a o, s.above a lt o)

      link : (a : ℕ) → a < length g → given later a → (get_or later a 0 < length order) × Reaches g a (get_or order (get_or later a 0) 0) × Reaches g (get_or order (get_or later a 0) 0) a
      link a lt k = by (is_given a)
        where
          by : (get_or under a 0 ≡ new) ⊎ given under a → (get_or later a 0 < length order) × Reaches g a (get_or order (get_or later a 0) 0) × Reaches g (get_or order (get_or later a 0) 0) a
          by (inr o) = subst (λ z. (z < length order) × Reaches g a (get_or order z 0) × Reaches g (get_or order z 0) a) (sym (t.kept a o)) (s.linked a lt o)
          by (inl e) =
              let f = t.fresh a e k in
              let n : needs g a v ≡ true = sym (in_row a) ∙ f.1 in
              let l = subst (λ z. (z < length order) × Reaches g v (get_or order z 0) × Reaches g (get_or order z 0) v) node.1 (s.linked v node.0 given_v) in
              let r = w.placed p pl in
              let before : get_or place a 0 ≤ p = late (or_less (get_or place a 0) p) in
              subst (λ z. (z < length order) × Reaches g a (get_or order z 0) × Reaches g (get_or order z 0) a) (sym f.0)
              (pl, step_on g a v (get_or order p 0) n l.1, back a v (get_or order p 0) lt node.0 r.0 n l.1 l.2 (omega (arith, r.1)))
            where
              late : (get_or place a 0 ≤ p) ⊎ (p < get_or place a 0) → get_or place a 0 ≤ p
              late (inl le) = le
              late (inr past) = absurd (s.covered a lt (omega arith) e)

      wait : (k : ℕ) → head + 1 ≤ k → k < length longer → (get_or longer k 0 < length g) × (get_or later (get_or longer k 0) 0 ≡ p)
      wait k le kl = by (or_less (length queue) k)
        where
          by : (length queue ≤ k) ⊎ (k < length queue) → (get_or longer k 0 < length g) × (get_or later (get_or longer k 0) 0 ≡ p)
          by (inl past) = let j = t.joins k past kl in (omega (arith, j.0, s.sized), j.1)
          by (inr old) =
              let q = s.queued k (omega arith) old in
              let there : given under (get_or queue k 0) = λ e. absurd (omega (arith, q.1, low)) in
              subst (λ z. (z < length g) × (get_or later z 0 ≡ p)) (sym (t.stays k old)) (q.0, t.kept (get_or queue k 0) there ∙ q.1)

      close : (a b : ℕ) → a < length g → b < length g → needs g a b ≡ true → given later b → ((k : ℕ) × (head + 1 ≤ k) × (k < length longer) × (get_or longer k 0 ≡ b)) ⊎ (given later a × (get_or later b 0 ≤ get_or later a 0))
      close a b al bl n k = by (is_given b)
        where
          old : (o : given under b) → ((j : ℕ) × (head ≤ j) × (j < length queue) × (get_or queue j 0 ≡ b)) ⊎ (given under a × (get_or under b 0 ≤ get_or under a 0)) → ((j : ℕ) × (head + 1 ≤ j) × (j < length longer) × (get_or longer j 0 ≡ b)) ⊎ (given later a × (get_or later b 0 ≤ get_or later a 0))
          old o (inr c) = inr (still a c.0, omega (arith, t.kept a c.0, t.kept b o, c.1))
          old o (inl j) = at (same_or j.0 head)
            where
              at : (j.0 ≡ head) ⊎ (j.0 ≢ head) → ((i : ℕ) × (head + 1 ≤ i) × (i < length longer) × (get_or longer i 0 ≡ b)) ⊎ (given later a × (get_or later b 0 ≤ get_or later a 0))
              at (inr ne) = inl (j.0, omega (arith, j.1), omega (arith, j.2, t.grows), t.stays j.0 j.2 ∙ j.3)
              at (inl e) =
                  let is_v : b ≡ v = sym j.3 ∙ ap (λ z. get_or queue z 0) e ∙ sym v_is in
                  let n_v : needs g a v ≡ true = subst (λ z. needs g a z ≡ true) is_v n in
                  let got : given later a = t.taken a (omega (arith, s.sized)) (in_row a ∙ n_v) in
                  let of_b : get_or later b 0 ≡ p = t.kept b o ∙ ap (λ z. get_or under z 0) is_v ∙ node.1 in
                  inr (got, omega (arith, of_b, high a al got))

          by : (get_or under b 0 ≡ new) ⊎ given under b → ((j : ℕ) × (head + 1 ≤ j) × (j < length longer) × (get_or longer j 0 ≡ b)) ⊎ (given later a × (get_or later b 0 ≤ get_or later a 0))
          by (inl e) = let f = t.fresh b e k in inl (f.2.0, omega (arith, f.2.1), f.2.2, f.2.3)
          by (inr o) = old o (s.closed a b al bl n o)
