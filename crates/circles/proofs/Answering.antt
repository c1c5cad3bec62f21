-- What is gathered tells the circles, and the order of a walk is one.
use Rattle.std.proofs.Common.{◌≡◌, refl, sym, ap, subst, ◌∙◌, ℕ, zero, suc, ◌<◌, ◌≤◌, ◌≢◌, ◌⊎◌, inl, inr, List, [], ◌∷◌, length, get_or, take, Bool, true, false, arith}
use Rattle.std.specs.Prelude.{nat_eq, nat_lt, ◌&&◌}
use Rattle.std.specs.List.{list_any}
use Rattle.std.proofs.lemmas.Bool.{eqb-true, eq-eqb}
use Rattle.std.proofs.lemmas.Bool.Decides.{nat_tests}
use Rattle.std.proofs.lemmas.Grind.{common_steps}
use Rattle.std.proofs.lemmas.Map.Keys.{IsDistinct-from_apart}
use Rattle.circles.specs.Circles.{Describes}
use Rattle.circles.specs.Needs.{needs_of, needs, is_circular, ReachesIn, Reaches, Path}
use Rattle.circles.specs.Order.{IsOrder, Stands}
use Rattle.circles.specs.Walk.{IsWalked}
use Rattle.circles.specs.Gathered.{IsGathered}
use Rattle.circles.proofs.Paths.{any_witness, any_hit, index_any, needs_below, path_of_circular, circular_of_path, joined, path_step}
use Rattle.circles.proofs.Gathering.{or_less}

same_bools : (x y : Bool) → (x ≡ true → y ≡ true) → (y ≡ true → x ≡ true) → x ≡ y
same_bools true y f h = sym (f refl)
same_bools false true f h = h refl
same_bools false false f h = refl

and_both : (x y : Bool) → x ≡ true → y ≡ true → (x && y) ≡ true
and_both x y e f = ap (λ z. z && y) e ∙ f

and_parts : (x y : Bool) → (x && y) ≡ true → (x ≡ true) × (y ≡ true)
and_parts true y h = (refl, h)
and_parts false y h = cc

below_true : (x y : ℕ) → x < y → nat_lt x y ≡ true
below_true x y h = grind (arith, nat_tests)

true_below : (x y : ℕ) → nat_lt x y ≡ true → x < y
true_below x y h = grind (arith, nat_tests)

-- ---- the circles

module _ (g : List (List ℕ)) (order place under : List ℕ) (s : IsGathered g order place under 0) where
  -- whether a need is gathered with a node
  abbrev with_it : ℕ → ℕ → Bool
  with_it a b = nat_lt b (length under) && nat_eq (get_or under b 0) (get_or under a 0)

  falls_along : (n a b : ℕ) → b < length g → ReachesIn n g a b → get_or under b 0 ≤ get_or under a 0
  falls_along zero a b bl e = let f = ap (λ z. get_or under z 0) e in omega (arith, f)
  falls_along (suc n) a b bl h =
      let al = needs_below g a h.0 h.1 in
      let cl = starts_below n h.0 bl h.2 in
      let c = s.closed a h.0 al cl h.1 (s.covered h.0 cl (omega arith)) in
      let rest = falls_along n h.0 b bl h.2 in
      omega (arith, c.1)
    where
      starts_below : (m c : ℕ) → b < length g → ReachesIn m g c b → c < length g
      starts_below zero c lt e = omega arith
      starts_below (suc m) c lt r = needs_below g c r.0 r.1

  told : (a : ℕ) → a < length g → is_circular g a ≡ true → list_any (with_it a) (needs_of g a) ≡ true
  told a lt h =
      let p = path_of_circular g a h in
      let cl : p.0 < length g = starts p.2.0 p.0 lt p.2.1 in
      let c = s.closed a p.0 lt cl p.1 (s.covered p.0 cl (omega arith)) in
      let up = falls_along p.2.0 p.0 a lt p.2.1 in
      any_hit (with_it a) (needs_of g a) p.0 p.1
      (and_both (nat_lt p.0 (length under)) (nat_eq (get_or under p.0 0) (get_or under a 0)) (below_true p.0 (length under) (omega (arith, s.sized))) (eq-eqb (get_or under p.0 0) (get_or under a 0) (omega (arith, c.1))))
    where
      starts : (m c : ℕ) → a < length g → ReachesIn m g c a → c < length g
      starts zero c lt e = omega arith
      starts (suc m) c lt r = needs_below g c r.0 r.1

  true_told : (a : ℕ) → a < length g → list_any (with_it a) (needs_of g a) ≡ true → is_circular g a ≡ true
  true_told a lt h =
      let w = any_witness (with_it a) (needs_of g a) h in
      let both = and_parts (nat_lt w.0 (length under)) (nat_eq (get_or under w.0 0) (get_or under a 0)) w.2 in
      let bl : w.0 < length g = omega (arith, true_below w.0 (length under) both.0, s.sized) in
      let same = eqb-true (get_or under w.0 0) (get_or under a 0) both.1 in
      let of_b = s.linked w.0 bl (s.covered w.0 bl (omega arith)) in
      let of_a = s.linked a lt (s.covered a lt (omega arith)) in
      let to_a = subst (λ z. Reaches g (get_or order z 0) a) (sym same) of_a.2 in
      circular_of_path g a (w.0, w.1, joined g w.0 (get_or order (get_or under w.0 0) 0) a of_b.1 to_a)

  pub circles_told : (flags : List Bool) → length flags ≡ length g → ((a : ℕ) → a < length g → get_or flags a false ≡ list_any (with_it a) (needs_of g a)) → (a : ℕ) → get_or flags a false ≡ is_circular g a
  circles_told flags sized each a = by (or_less (length g) a)
    where
      past : (fs : List Bool) (k : ℕ) → length fs ≤ k → get_or fs k false ≡ false
      past [] k h = refl
      past (f ∷ fs) zero h = absurd (omega arith)
      past (f ∷ fs) (suc k) h = past fs k (omega arith)

      none : length g ≤ a → (t : Bool) → is_circular g a ≡ t → false ≡ t
      none le true e = let p = path_of_circular g a e in let lt = needs_below g a p.0 p.1 in absurd (omega arith)
      none le false e = refl

      by : (length g ≤ a) ⊎ (a < length g) → get_or flags a false ≡ is_circular g a
      by (inl le) = past flags a (omega arith) ∙ none le (is_circular g a) refl
      by (inr lt) = each a lt ∙ same_bools (list_any (with_it a) (needs_of g a)) (is_circular g a) (true_told a lt) (told a lt)

-- ---- the order

in_front : (xs : List ℕ) (p q : ℕ) → q < p → q < length xs → list_any (nat_eq (get_or xs q 0)) (take p xs) ≡ true
in_front xs p q lt below =
    let there : q < length (take p xs) = grind (arith, common_steps) in
    let same : get_or (take p xs) q 0 ≡ get_or xs q 0 = grind (arith, common_steps) in
    subst (λ z. list_any (nat_eq z) (take p xs) ≡ true) same (index_any (take p xs) q there)

unequal : (x y : ℕ) → x ≢ y → nat_eq x y ≡ false
unequal x y e = grind (arith, nat_tests)

any_default : (xs : List ℕ) (i d : ℕ) → i < length xs → get_or xs i d ≡ get_or xs i 0
any_default xs i d lt = grind (arith, common_steps)

module _ (g : List (List ℕ)) (order place : List ℕ) (w : IsWalked g order place) where
  pub ordered : IsOrder g order
  ordered = record {
    once = IsDistinct-from_apart nat_eq order (λ i j d lt jl. differ i j d lt jl);
    whole = λ a lt. let f = w.found a lt in subst (λ z. Stands z order) f.1 (index_any order (get_or place a 0) f.0);
    below = λ p h. (w.placed p h).0;
    behind = follow;
  }
    where
      differ : (i j d : ℕ) → i < j → j < length order → nat_eq (get_or order i d) (get_or order j d) ≡ false
      differ i j d lt jl = unequal (get_or order i d) (get_or order j d) (λ e.
          let il : i < length order = omega arith in
          let same : get_or order i 0 ≡ get_or order j 0 = sym (any_default order i d il) ∙ e ∙ any_default order j d jl in
          let at : i ≡ j = sym (w.placed i il).1 ∙ ap (λ z. get_or place z 0) same ∙ (w.placed j jl).1 in
          absurd (omega arith))

      follow : (p : ℕ) → p < length order → is_circular g (get_or order p 0) ≡ false → (b : ℕ) → b < length g → needs g (get_or order p 0) b ≡ true → Stands b (take p order)
      follow p h off b bl n = by (or_less p (get_or place b 0))
        where
          by : (p ≤ get_or place b 0) ⊎ (get_or place b 0 < p) → Stands b (take p order)
          by (inr lt) = let f = w.found b bl in subst (λ z. Stands z (take p order)) f.1 (in_front order p (get_or place b 0) lt f.0)
          by (inl le) = absurd (never (same_place (get_or place b 0) p))
            where
              same_place : (x y : ℕ) → (x ≡ y) ⊎ (x ≢ y)
              same_place x y = grind arith

              circular : Path g (get_or order p 0) (get_or order p 0) → ⊥
              circular path = no_both (circular_of_path g (get_or order p 0) path) off
                where
                  no_both : is_circular g (get_or order p 0) ≡ true → is_circular g (get_or order p 0) ≡ false → ⊥
                  no_both e f = cc

              never : (get_or place b 0 ≡ p) ⊎ (get_or place b 0 ≢ p) → ⊥
              never (inl e) =
                  let self : b ≡ get_or order p 0 = sym (w.found b bl).1 ∙ ap (λ z. get_or order z 0) e in
                  circular (b, n, (0, self))
              never (inr ne) =
                  let r = w.placed p h in
                  circular (b, n, path_step g b (get_or order p 0) (w.behind (get_or order p 0) b (get_or order p 0) r.0 bl r.0 n (omega arith) (omega (arith, r.1))))

pub described : (g : List (List ℕ)) (order place under seen : List ℕ) (flags : List Bool) → IsWalked g order place → IsGathered g order place under 0 → seen ≡ under → length flags ≡ length g
    → ((a : ℕ) → a < length g → get_or flags a false ≡ list_any (λ b. nat_lt b (length seen) && nat_eq (get_or seen b 0) (get_or seen a 0)) (needs_of g a))
    → Describes g (record { circular = flags; order = order })
described g order place under seen flags w s same sized each = record {
  circular = circles_told g order place under s flags sized
      (subst (λ u. (a : ℕ) → a < length g → get_or flags a false ≡ list_any (λ b. nat_lt b (length u) && nat_eq (get_or u b 0) (get_or u a 0)) (needs_of g a)) same each);
  order = ordered g order place w;
}
