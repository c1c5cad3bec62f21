-- Steps of a walk keep what it keeps.
use Rattle.std.proofs.Common.{◌≡◌, refl, sym, ap, subst, ◌∙◌, ℕ, zero, suc, ◌+◌, ◌-◌, ◌<◌, ◌≤◌, ◌≢◌, ◌⊎◌, inl, inr, List, [], ◌∷◌, ◌++◌, length, get_or, set, true, false, arith, length-set, get_or-set_same, get_or-set_other, cond}
use Rattle.std.specs.Prelude.{nat_eq}
use Rattle.std.specs.List.{count_by}
use Rattle.std.proofs.lemmas.Grind.{common_steps}
use Rattle.std.proofs.lemmas.Bool.Decides.{nat_tests}
use Rattle.std.proofs.lemmas.List.Sums.{sum_by-set}
use Rattle.circles.specs.Needs.{needs_of, needs, ReachesIn, Path}
use Rattle.circles.specs.Walk.{new, open_mark, IsWalk}
use Rattle.circles.proofs.Paths.{step_path}

-- ---- one mark less, and lists that grow at their end

pub fewer : (place : List ℕ) (a m : ℕ) → a < length place → get_or place a 0 ≡ new → m < new → count_by (nat_eq new) (set place a m) + 1 ≡ count_by (nat_eq new) place
fewer place a m lt is low =
    let e = sum_by-set (λ x. cond (nat_eq new x) 1 0) place a m 0 lt in
    let yes : nat_eq new (get_or place a 0) ≡ true = grind (arith, nat_tests) in
    let no : nat_eq new m ≡ false = grind (arith, nat_tests) in
    let one = ap {B = ℕ} (λ t. cond t 1 0) yes in
    let none = ap {B = ℕ} (λ t. cond t 1 0) no in
    omega (arith, e, one, none)

pub as_many : (place : List ℕ) (a m : ℕ) → a < length place → get_or place a 0 < new → m < new → count_by (nat_eq new) (set place a m) ≡ count_by (nat_eq new) place
as_many place a m lt is low =
    let e = sum_by-set (λ x. cond (nat_eq new x) 1 0) place a m 0 lt in
    let yes : nat_eq new (get_or place a 0) ≡ false = grind (arith, nat_tests) in
    let no : nat_eq new m ≡ false = grind (arith, nat_tests) in
    let one = ap {B = ℕ} (λ t. cond t 1 0) yes in
    let none = ap {B = ℕ} (λ t. cond t 1 0) no in
    omega (arith, e, one, none)

pub grown_old : (xs : List ℕ) (x k : ℕ) → k < length xs → get_or (xs ++ x ∷ []) k 0 ≡ get_or xs k 0
grown_old xs x k lt = grind (arith, common_steps)

pub grown_end : (xs : List ℕ) (x k : ℕ) → k ≡ length xs → get_or (xs ++ x ∷ []) k 0 ≡ x
grown_end xs x k is = grind (arith, common_steps)

pub grown_length : (xs : List ℕ) (x : ℕ) → length (xs ++ x ∷ []) ≡ length xs + 1
grown_length xs x = grind (arith, common_steps)

pub set_at : (xs : List ℕ) (i j m : ℕ) → i < length xs → j ≡ i → get_or (set xs i m) j 0 ≡ m
set_at xs i j m lt is = subst (λ z. get_or (set xs i m) z 0 ≡ m) (sym is) (get_or-set_same xs i m 0 lt)

pub set_off : (xs : List ℕ) (i j m : ℕ) → j ≢ i → get_or (set xs i m) j 0 ≡ get_or xs j 0
set_off xs i j m ne = get_or-set_other xs i j m 0 ne

pub end_or : (n k : ℕ) → k < n + 1 → (k < n) ⊎ (k ≡ n)
end_or n k h = grind arith

pub needs_same : (g : List (List ℕ)) (a b c d : ℕ) → a ≡ c → b ≡ d → needs g c d ≡ true → needs g a b ≡ true
needs_same g a b c d e f h = subst (λ z. needs g z b ≡ true) (sym e) (subst (λ z. needs g c z ≡ true) (sym f) h)

-- what the first looks at a row have seen
abbrev pub Seen : List (List ℕ) → List ℕ → ℕ → ℕ → Type 0
Seen g place n a = (i : ℕ) → i < n → i < length (needs_of g a) → get_or (needs_of g a) i 0 < length g → get_or place (get_or (needs_of g a) i 0) 0 ≡ new → ⊥

pub same_or : (a b : ℕ) → (a ≡ b) ⊎ (a ≢ b)
same_or a b = grind arith

-- ---- the open nodes lead to the top

module _ (g : List (List ℕ)) (order place stack at : List ℕ) (w : IsWalk g order place stack at) where
  down : (d j : ℕ) → j + d < length stack → ReachesIn d g (get_or stack j 0) (get_or stack (j + d) 0)
  down zero j lt = ap (λ z. get_or stack z 0) (omega arith)
  down (suc d) j lt =
      let r = down d (j + 1) (omega arith) in
      let e : j + 1 + d ≡ j + suc d = omega arith in
      (get_or stack (j + 1) 0, w.trail j (omega arith), subst (λ z. ReachesIn d g (get_or stack (j + 1) 0) (get_or stack z 0)) e r)

  -- an open node leads to the top, unless it stands there
  leads_up : (a top : ℕ) → a < length g → get_or place a 0 ≡ open_mark → top + 1 ≡ length stack → a ≢ get_or stack top 0 → Path g a (get_or stack top 0)
  leads_up a top lt is end ne = by (w.stands a lt is)
    where
      by : (k : ℕ) × (k < length stack) × (get_or stack k 0 ≡ a) → Path g a (get_or stack top 0)
      by s =
          let other : s.0 ≢ top = λ e. ne (sym s.2 ∙ ap (λ z. get_or stack z 0) e) in
          let before : s.0 < top = omega arith in
          let far : s.0 + suc (top - s.0 - 1) ≡ top = omega arith in
          let r = down (suc (top - s.0 - 1)) s.0 (omega arith) in
          step_path (top - s.0 - 1) g a (get_or stack top 0)
          (subst (λ z. ReachesIn (suc (top - s.0 - 1)) g z (get_or stack top 0)) s.2
          (subst (λ z. ReachesIn (suc (top - s.0 - 1)) g (get_or stack s.0 0) (get_or stack z 0)) far r))

  -- ---- more needs of a node were looked at

  pub looks : (k v : ℕ) → k < length stack
      → ((i : ℕ) → i < v → i < length (needs_of g (get_or stack k 0)) → get_or (needs_of g (get_or stack k 0)) i 0 < length g → get_or place (get_or (needs_of g (get_or stack k 0)) i 0) 0 ≡ new → ⊥)
      → IsWalk g order place stack (set at k v)
  looks k v lt h = record {
    few = w.few;
    sized = w.sized;
    paired = length-set at k v ∙ w.paired;
    counted = w.counted;
    marked = w.marked;
    placed = w.placed;
    found = w.found;
    stacked = w.stacked;
    apart = w.apart;
    stands = w.stands;
    trail = w.trail;
    looked = look;
    finished = w.finished;
    behind = w.behind;
  }
    where
      look : (j : ℕ) → j < length stack → (i : ℕ) → i < get_or (set at k v) j 0 → i < length (needs_of g (get_or stack j 0)) → get_or (needs_of g (get_or stack j 0)) i 0 < length g → get_or place (get_or (needs_of g (get_or stack j 0)) i 0) 0 ≡ new → ⊥
      look j jt i it = by (same_or j k)
        where
          by : (j ≡ k) ⊎ (j ≢ k) → i < length (needs_of g (get_or stack j 0)) → get_or (needs_of g (get_or stack j 0)) i 0 < length g → get_or place (get_or (needs_of g (get_or stack j 0)) i 0) 0 ≡ new → ⊥
          by (inl e) =
              let in_at : k < length at = omega (arith, w.paired) in
              let iv : i < v = omega (arith, set_at at k j v in_at e) in
              let e2 = sym e in
              subst (λ z. i < length (needs_of g (get_or stack z 0)) → get_or (needs_of g (get_or stack z 0)) i 0 < length g → get_or place (get_or (needs_of g (get_or stack z 0)) i 0) 0 ≡ new → ⊥) e2 (h i iv)
          by (inr ne) = w.looked j jt i (omega (arith, set_off at k j v ne))

  -- ---- a node is opened

  module _ (b : ℕ) (lt : b < length g) (was : get_or place b 0 ≡ new)
      (follows : (k : ℕ) → k + 1 ≡ length stack → needs g (get_or stack k 0) b ≡ true) where
    b_in : b < length place
    b_in = omega (arith, w.sized)

    here : (a : ℕ) → a ≡ b → get_or (set place b open_mark) a 0 ≡ open_mark
    here a e = set_at place b a open_mark b_in e

    away : (a : ℕ) → a ≢ b → get_or (set place b open_mark) a 0 ≡ get_or place a 0
    away a ne = set_off place b a open_mark ne

    -- an open or finished node isn't the new one
    not_b : (a : ℕ) → get_or place a 0 < new → a ≢ b
    not_b a h e = let f = ap (λ z. get_or place z 0) e in absurd (omega (arith, f))

    low : length order ≤ length g
    low = omega (arith, w.counted)

    ended : (k : ℕ) → k < length (stack ++ b ∷ []) → (k < length stack) ⊎ (k ≡ length stack)
    ended k h = end_or (length stack) k (omega (arith, grown_length stack b))

    pub opened : IsWalk g order (set place b open_mark) (stack ++ b ∷ []) (at ++ 0 ∷ [])
    opened = record {
      few = w.few;
      sized = length-set place b open_mark ∙ w.sized;
      paired = omega (arith, grown_length at 0, grown_length stack b, w.paired);
      counted = omega (arith, fewer place b open_mark b_in was (omega arith), grown_length stack b, w.counted);
      marked = mark;
      placed = put;
      found = find;
      stacked = stack_up;
      apart = part;
      stands = stand;
      trail = lead;
      looked = look;
      finished = finish;
      behind = follow;
    }
      where
        mark : (a : ℕ) → a < length g → get_or (set place b open_mark) a 0 ≤ new
        mark a h = elim (same_or a b) [ inl e ↦ omega (arith, here a e) | inr ne ↦ omega (arith, away a ne, w.marked a h) ]

        put : (p : ℕ) → p < length order → (get_or order p 0 < length g) × (get_or (set place b open_mark) (get_or order p 0) 0 ≡ p)
        put p h =
            let r = w.placed p h in
            let ne = not_b (get_or order p 0) (omega (arith, r.1, low)) in
            (r.0, away (get_or order p 0) ne ∙ r.1)

        find : (a : ℕ) → a < length g → get_or (set place b open_mark) a 0 < open_mark → (get_or (set place b open_mark) a 0 < length order) × (get_or order (get_or (set place b open_mark) a 0) 0 ≡ a)
        find a h lo =
            let ne : a ≢ b = λ e. absurd (omega (arith, here a e)) in
            let q = away a ne in
            subst (λ z. (z < length order) × (get_or order z 0 ≡ a)) (sym q) (w.found a h (omega (arith, q)))

        stack_up : (k : ℕ) → k < length (stack ++ b ∷ []) → (get_or (stack ++ b ∷ []) k 0 < length g) × (get_or (set place b open_mark) (get_or (stack ++ b ∷ []) k 0) 0 ≡ open_mark)
        stack_up k h = by (ended k h)
          where
            by : (k < length stack) ⊎ (k ≡ length stack) → (get_or (stack ++ b ∷ []) k 0 < length g) × (get_or (set place b open_mark) (get_or (stack ++ b ∷ []) k 0) 0 ≡ open_mark)
            by (inl kl) =
                let r = w.stacked k kl in
                let ne = not_b (get_or stack k 0) (omega (arith, r.1)) in
                subst (λ z. (z < length g) × (get_or (set place b open_mark) z 0 ≡ open_mark)) (sym (grown_old stack b k kl)) (r.0, away (get_or stack k 0) ne ∙ r.1)
            by (inr ke) = subst (λ z. (z < length g) × (get_or (set place b open_mark) z 0 ≡ open_mark)) (sym (grown_end stack b k ke)) (lt, here b refl)

        part : (j k : ℕ) → j < k → k < length (stack ++ b ∷ []) → get_or (stack ++ b ∷ []) j 0 ≡ get_or (stack ++ b ∷ []) k 0 → ⊥
        part j k jk h e = by (ended k h)
          where
            by : (k < length stack) ⊎ (k ≡ length stack) → ⊥
            by (inl kl) = w.apart j k jk kl (sym (grown_old stack b j (omega arith)) ∙ e ∙ grown_old stack b k kl)
            by (inr ke) =
                let jl : j < length stack = omega arith in
                let r = w.stacked j jl in
                not_b (get_or stack j 0) (omega (arith, r.1)) (sym (grown_old stack b j jl) ∙ e ∙ grown_end stack b k ke)

        stand : (a : ℕ) → a < length g → get_or (set place b open_mark) a 0 ≡ open_mark → (k : ℕ) × (k < length (stack ++ b ∷ [])) × (get_or (stack ++ b ∷ []) k 0 ≡ a)
        stand a h e = by (same_or a b)
          where
            by : (a ≡ b) ⊎ (a ≢ b) → (k : ℕ) × (k < length (stack ++ b ∷ [])) × (get_or (stack ++ b ∷ []) k 0 ≡ a)
            by (inl q) = (length stack, omega (arith, grown_length stack b), grown_end stack b (length stack) refl ∙ sym q)
            by (inr ne) =
                let s = w.stands a h (sym (away a ne) ∙ e) in
                (s.0, omega (arith, grown_length stack b, s.1), grown_old stack b s.0 s.1 ∙ s.2)

        lead : (k : ℕ) → k + 1 < length (stack ++ b ∷ []) → needs g (get_or (stack ++ b ∷ []) k 0) (get_or (stack ++ b ∷ []) (k + 1) 0) ≡ true
        lead k h = by (ended (k + 1) h)
          where
            by : (k + 1 < length stack) ⊎ (k + 1 ≡ length stack) → needs g (get_or (stack ++ b ∷ []) k 0) (get_or (stack ++ b ∷ []) (k + 1) 0) ≡ true
            by (inl kl) = needs_same g _ _ _ _ (grown_old stack b k (omega arith)) (grown_old stack b (k + 1) kl) (w.trail k kl)
            by (inr ke) = needs_same g _ _ _ _ (grown_old stack b k (omega arith)) (grown_end stack b (k + 1) ke) (follows k ke)

        look : (k : ℕ) → k < length (stack ++ b ∷ []) → Seen g (set place b open_mark) (get_or (at ++ 0 ∷ []) k 0) (get_or (stack ++ b ∷ []) k 0)
        look k h = by (ended k h)
          where
            by : (k < length stack) ⊎ (k ≡ length stack) → Seen g (set place b open_mark) (get_or (at ++ 0 ∷ []) k 0) (get_or (stack ++ b ∷ []) k 0)
            by (inl kl) =
                let ka : k < length at = omega (arith, w.paired) in
                let f : Seen g (set place b open_mark) (get_or at k 0) (get_or stack k 0) = λ i it il ig e. fork (get_or (needs_of g (get_or stack k 0)) i 0) e (w.looked k kl i it il ig) in
                subst (λ n. Seen g (set place b open_mark) n (get_or (stack ++ b ∷ []) k 0)) (sym (grown_old at 0 k ka))
                (subst (λ a. Seen g (set place b open_mark) (get_or at k 0) a) (sym (grown_old stack b k kl)) f)
              where
                fork : (x : ℕ) → get_or (set place b open_mark) x 0 ≡ new → (get_or place x 0 ≡ new → ⊥) → ⊥
                fork x e off = elim (same_or x b) [ inl q ↦ absurd (omega (arith, here x q)) | inr ne ↦ off (sym (away x ne) ∙ e) ]
            by (inr ke) = λ i it il ig e. absurd (omega (arith, grown_end at 0 k (omega (arith, w.paired))))

        finish : (p : ℕ) → p < length order → (a : ℕ) → a < length g → needs g (get_or order p 0) a ≡ true → get_or (set place b open_mark) a 0 ≡ new → ⊥
        finish p h a ag n e = elim (same_or a b) [ inl q ↦ absurd (omega (arith, here a q)) | inr ne ↦ w.finished p h a ag n (sym (away a ne) ∙ e) ]

        follow : (p : ℕ) → p < length order → (a : ℕ) → a < length g → needs g (get_or order p 0) a ≡ true → (q : ℕ) → p ≤ q → q < length order → q < get_or (set place b open_mark) a 0 → Path g a (get_or order q 0)
        follow p h a ag n q pq ql qa = w.behind p h a ag n q pq ql (by (same_or a b))
          where
            by : (a ≡ b) ⊎ (a ≢ b) → q < get_or place a 0
            by (inl e) = let f = ap (λ z. get_or place z 0) e in omega (arith, f, low)
            by (inr ne) = omega (arith, away a ne)

-- ---- the node on top is finished

module _ (g : List (List ℕ)) (order place front seen : List ℕ) (v s : ℕ) (w : IsWalk g order place (front ++ v ∷ []) (seen ++ s ∷ []))
    (done : (b : ℕ) → b < length g → needs g v b ≡ true → get_or place b 0 ≡ new → ⊥) where
  longer : length (front ++ v ∷ []) ≡ length front + 1
  longer = grown_length front v

  top_is : get_or (front ++ v ∷ []) (length front) 0 ≡ v
  top_is = grown_end front v (length front) refl

  top : (v < length g) × (get_or place v 0 ≡ open_mark)
  top = subst (λ z. (z < length g) × (get_or place z 0 ≡ open_mark)) top_is (w.stacked (length front) (omega (arith, longer)))

  under : length order < length g
  under = omega (arith, w.counted, longer)

  v_in : v < length place
  v_in = omega (arith, w.sized, top.0)

  here_v : (a : ℕ) → a ≡ v → get_or (set place v (length order)) a 0 ≡ length order
  here_v a e = set_at place v a (length order) v_in e

  away_v : (a : ℕ) → a ≢ v → get_or (set place v (length order)) a 0 ≡ get_or place a 0
  away_v a ne = set_off place v a (length order) ne

  not_v : (a : ℕ) → get_or place a 0 < open_mark → a ≢ v
  not_v a h e = let f = ap (λ z. get_or place z 0) e in absurd (omega (arith, f, top.1))

  both_seen : length seen ≡ length front
  both_seen = omega (arith, w.paired, longer, grown_length seen s)

  below_top : (k : ℕ) → k < length front → get_or front k 0 ≢ v
  below_top k h e = w.apart k (length front) h (omega (arith, longer)) (grown_old front v k h ∙ e ∙ sym top_is)

  ended_v : (p : ℕ) → p < length (order ++ v ∷ []) → (p < length order) ⊎ (p ≡ length order)
  ended_v p h = end_or (length order) p (omega (arith, grown_length order v))

  -- an open node under the top leads to it
  up : (a : ℕ) → a < length g → get_or place a 0 ≡ open_mark → a ≢ v → Path g a v
  up a lt is ne = subst (λ z. Path g a z) top_is (leads_up g order place (front ++ v ∷ []) (seen ++ s ∷ []) w a (length front) lt is (sym longer) (λ e. ne (e ∙ top_is)))

  pub closed : IsWalk g (order ++ v ∷ []) (set place v (length order)) front seen
  closed = record {
    few = w.few;
    sized = length-set place v (length order) ∙ w.sized;
    paired = both_seen;
    counted = omega (arith, as_many place v (length order) v_in (omega (arith, top.1)) (omega (arith, under)), grown_length order v, longer, w.counted);
    marked = mark;
    placed = put;
    found = find;
    stacked = stack_up;
    apart = λ j k jk h e. w.apart j k jk (omega (arith, longer)) (grown_old front v j (omega arith) ∙ e ∙ sym (grown_old front v k h));
    stands = stand;
    trail = λ k h. needs_same g _ _ _ _ (sym (grown_old front v k (omega arith))) (sym (grown_old front v (k + 1) h)) (w.trail k (omega (arith, longer)));
    looked = look;
    finished = finish;
    behind = follow;
  }
    where
      mark : (a : ℕ) → a < length g → get_or (set place v (length order)) a 0 ≤ new
      mark a h = elim (same_or a v) [ inl e ↦ omega (arith, here_v a e, under) | inr ne ↦ omega (arith, away_v a ne, w.marked a h) ]

      put : (p : ℕ) → p < length (order ++ v ∷ []) → (get_or (order ++ v ∷ []) p 0 < length g) × (get_or (set place v (length order)) (get_or (order ++ v ∷ []) p 0) 0 ≡ p)
      put p h = by (ended_v p h)
        where
          by : (p < length order) ⊎ (p ≡ length order) → (get_or (order ++ v ∷ []) p 0 < length g) × (get_or (set place v (length order)) (get_or (order ++ v ∷ []) p 0) 0 ≡ p)
          by (inl pl) =
              let r = w.placed p pl in
              let ne = not_v (get_or order p 0) (omega (arith, r.1, under)) in
              subst (λ z. (z < length g) × (get_or (set place v (length order)) z 0 ≡ p)) (sym (grown_old order v p pl)) (r.0, away_v (get_or order p 0) ne ∙ r.1)
          by (inr pe) = subst (λ z. (z < length g) × (get_or (set place v (length order)) z 0 ≡ p)) (sym (grown_end order v p pe)) (top.0, here_v v refl ∙ sym pe)

      find : (a : ℕ) → a < length g → get_or (set place v (length order)) a 0 < open_mark → (get_or (set place v (length order)) a 0 < length (order ++ v ∷ [])) × (get_or (order ++ v ∷ []) (get_or (set place v (length order)) a 0) 0 ≡ a)
      find a h lo = by (same_or a v)
        where
          by : (a ≡ v) ⊎ (a ≢ v) → (get_or (set place v (length order)) a 0 < length (order ++ v ∷ [])) × (get_or (order ++ v ∷ []) (get_or (set place v (length order)) a 0) 0 ≡ a)
          by (inl e) = (omega (arith, here_v a e, grown_length order v), grown_end order v _ (here_v a e) ∙ sym e)
          by (inr ne) =
              let q = away_v a ne in
              let r = w.found a h (omega (arith, q)) in
              (omega (arith, q, r.0, grown_length order v), grown_old order v _ (omega (arith, q, r.0)) ∙ ap (λ z. get_or order z 0) q ∙ r.1)

      stack_up : (k : ℕ) → k < length front → (get_or front k 0 < length g) × (get_or (set place v (length order)) (get_or front k 0) 0 ≡ open_mark)
      stack_up k h =
          let r = subst (λ z. (z < length g) × (get_or place z 0 ≡ open_mark)) (grown_old front v k h) (w.stacked k (omega (arith, longer))) in
          (r.0, away_v (get_or front k 0) (below_top k h) ∙ r.1)

      stand : (a : ℕ) → a < length g → get_or (set place v (length order)) a 0 ≡ open_mark → (k : ℕ) × (k < length front) × (get_or front k 0 ≡ a)
      stand a h e =
          let ne : a ≢ v = λ q. absurd (omega (arith, here_v a q, under)) in
          by ne (w.stands a h (sym (away_v a ne) ∙ e))
        where
          by : a ≢ v → (k : ℕ) × (k < length (front ++ v ∷ [])) × (get_or (front ++ v ∷ []) k 0 ≡ a) → (k : ℕ) × (k < length front) × (get_or front k 0 ≡ a)
          by ne t =
              let other : t.0 ≢ length front = λ q. ne (sym t.2 ∙ grown_end front v t.0 q) in
              let kl : t.0 < length front = omega (arith, longer, t.1) in
              (t.0, kl, sym (grown_old front v t.0 kl) ∙ t.2)

      look : (k : ℕ) → k < length front → Seen g (set place v (length order)) (get_or seen k 0) (get_or front k 0)
      look k h =
          let ks : k < length seen = omega (arith, both_seen) in
          let old : Seen g place (get_or (seen ++ s ∷ []) k 0) (get_or (front ++ v ∷ []) k 0) = w.looked k (omega (arith, longer)) in
          let now : Seen g place (get_or seen k 0) (get_or front k 0) =
          subst (λ n. Seen g place n (get_or front k 0)) (grown_old seen s k ks)
          (subst (λ a. Seen g place (get_or (seen ++ s ∷ []) k 0) a) (grown_old front v k h) old) in
          λ i it il ig e. fork (get_or (needs_of g (get_or front k 0)) i 0) e (now i it il ig)
        where
          fork : (x : ℕ) → get_or (set place v (length order)) x 0 ≡ new → (get_or place x 0 ≡ new → ⊥) → ⊥
          fork x e off = elim (same_or x v) [ inl q ↦ absurd (omega (arith, here_v x q, under)) | inr ne ↦ off (sym (away_v x ne) ∙ e) ]

      was_new : (b : ℕ) → get_or (set place v (length order)) b 0 ≡ new → get_or place b 0 ≡ new
      was_new b e = elim (same_or b v) [ inl q ↦ absurd (omega (arith, here_v b q, under)) | inr ne ↦ sym (away_v b ne) ∙ e ]

      finish : (p : ℕ) → p < length (order ++ v ∷ []) → (b : ℕ) → b < length g → needs g (get_or (order ++ v ∷ []) p 0) b ≡ true → get_or (set place v (length order)) b 0 ≡ new → ⊥
      finish p h b bg n e = by (ended_v p h)
        where
          by : (p < length order) ⊎ (p ≡ length order) → ⊥
          by (inl pl) = w.finished p pl b bg (needs_same g _ b _ b (sym (grown_old order v p pl)) refl n) (was_new b e)
          by (inr pe) = done b bg (needs_same g _ b _ b (sym (grown_end order v p pe)) refl n) (was_new b e)

      -- what isn't finished when v is: open under it
      waits : (b : ℕ) → b < length g → length order < get_or (set place v (length order)) b 0 → (get_or place b 0 ≡ new → ⊥) → Path g b v
      waits b bg late met =
          let ne : b ≢ v = λ q. absurd (omega (arith, here_v b q)) in
          let q = away_v b ne in
          let not_new : get_or place b 0 ≢ new = met in
          let not_low : open_mark ≤ get_or place b 0 = by (high (get_or place b 0)) q in
          up b bg (omega (arith, w.marked b bg)) ne
        where
          high : (x : ℕ) → (x < open_mark) ⊎ (open_mark ≤ x)
          high x = grind arith

          by : (get_or place b 0 < open_mark) ⊎ (open_mark ≤ get_or place b 0) → get_or (set place v (length order)) b 0 ≡ get_or place b 0 → open_mark ≤ get_or place b 0
          by (inl lo) q = let r = w.found b bg lo in absurd (omega (arith, r.0, q))
          by (inr hi) q = hi

      follow : (p : ℕ) → p < length (order ++ v ∷ []) → (b : ℕ) → b < length g → needs g (get_or (order ++ v ∷ []) p 0) b ≡ true → (q : ℕ) → p ≤ q → q < length (order ++ v ∷ []) → q < get_or (set place v (length order)) b 0 → Path g b (get_or (order ++ v ∷ []) q 0)
      follow p h b bg n q pq ql qb = by (ended_v q ql)
        where
          met : (p < length order) ⊎ (p ≡ length order) → get_or place b 0 ≡ new → ⊥
          met (inl pl) = w.finished p pl b bg (needs_same g _ b _ b (sym (grown_old order v p pl)) refl n)
          met (inr pe) = done b bg (needs_same g _ b _ b (sym (grown_end order v p pe)) refl n)

          past : (b ≡ v) ⊎ (b ≢ v) → q < length order → q < get_or place b 0
          past (inl e) lo = let f = ap (λ z. get_or place z 0) e in omega (arith, f, top.1, under)
          past (inr ne) lo = omega (arith, away_v b ne)

          by : (q < length order) ⊎ (q ≡ length order) → Path g b (get_or (order ++ v ∷ []) q 0)
          by (inl lo) =
              let pl : p < length order = omega arith in
              subst (λ z. Path g b z) (sym (grown_old order v q lo)) (w.behind p pl b bg (needs_same g _ b _ b (sym (grown_old order v p pl)) refl n) q pq lo (past (same_or b v) lo))
          by (inr e) = subst (λ z. Path g b z) (sym (grown_end order v q e)) (waits b bg (omega arith) (met (ended_v p h)))
