-- The relation of paths, and that a search through as many others as there are nodes finds each.
use Rattle.std.proofs.Common.{◌≡◌, refl, sym, ap, subst, ◌∙◌, ℕ, zero, suc, ◌<◌, ◌≤◌, List, [], ◌∷◌, length, get_or, Bool, true, false, arith, eqb, inl, inr, ◌⊎◌}
use Rattle.std.specs.Prelude.{nat_eq, ◌||◌}
use Rattle.std.specs.List.{list_any, IsDistinct, AllByRecursion}
use Rattle.std.proofs.lemmas.Bool.{eqb-true, eq-eqb}
use Rattle.std.proofs.lemmas.Map.Keys.{IsDistinct-cons}
use Rattle.std.proofs.lemmas.Map.Steps.{length-le_from_distinct_below}
use Rattle.circles.specs.Needs.{needs_of, needs, leads, is_circular, ReachesIn, Reaches, Path}

-- ---- tests of some element

pub or_right : (a b : Bool) → b ≡ true → (a || b) ≡ true
or_right true b h = refl
or_right false b h = h

pub or_left : (a b : Bool) → a ≡ true → (a || b) ≡ true
or_left true b h = refl
or_left false b h = cc

pub or_cases : (a b : Bool) → (a || b) ≡ true → (a ≡ true) ⊎ ((a ≡ false) × (b ≡ true))
or_cases true b h = inl refl
or_cases false b h = inr (refl, h)

or_neither : (a b : Bool) → (a || b) ≡ false → (a ≡ false) × (b ≡ false)
or_neither true b h = cc
or_neither false b h = (refl, h)

-- one that passes
pub any_witness : (p : ℕ → Bool) (xs : List ℕ) → list_any p xs ≡ true → (x : ℕ) × (list_any (nat_eq x) xs ≡ true) × (p x ≡ true)
any_witness p [] h = cc
any_witness p (x ∷ xs) h =
    elim (or_cases (p x) (list_any p xs) h) [
      | inl e ↦ (x, or_left (eqb x x) _ (eq-eqb x x refl), e)
      | inr r ↦ let w = any_witness p xs r.1 in (w.0, or_right (eqb w.0 x) _ w.1, w.2)
    ]

pub any_hit : (p : ℕ → Bool) (xs : List ℕ) (x : ℕ) → list_any (nat_eq x) xs ≡ true → p x ≡ true → list_any p xs ≡ true
any_hit p [] x h e = h
any_hit p (y ∷ xs) x h e =
    elim (or_cases (eqb x y) (list_any (nat_eq x) xs) h) [
      | inl q ↦ or_left (p y) _ (subst (λ z. p z ≡ true) (eqb-true x y q) e)
      | inr r ↦ or_right (p y) _ (any_hit p xs x r.1 e)
    ]

-- ---- what needs something is a node of the graph

beyond : (g : List (List ℕ)) (a : ℕ) → length g ≤ a → needs_of g a ≡ []
beyond [] a h = refl
beyond (row ∷ g) zero h = absurd (omega arith)
beyond (row ∷ g) (suc a) h = beyond g a (omega arith)

pub needs_below : (g : List (List ℕ)) (a b : ℕ) → needs g a b ≡ true → a < length g
needs_below g a b h = by (arith_cases a (length g))
  where
    arith_cases : (x n : ℕ) → (x < n) ⊎ (n ≤ x)
    arith_cases x n = grind arith

    by : (a < length g) ⊎ (length g ≤ a) → a < length g
    by (inl lt) = lt
    by (inr le) = let e = beyond g a le in absurd (none (ap (list_any (nat_eq b)) (sym e) ∙ h))
      where
        none : false ≡ true → ⊥
        none e = cc

-- ---- what is found is a path

pub path_of : (n : ℕ) (g : List (List ℕ)) (a b : ℕ) → leads n g a b ≡ true → Path g a b
path_of zero g a b h = (b, h, (0, refl))
path_of (suc n) g a b h =
    elim (or_cases (needs g a b) _ h) [
      | inl e ↦ (b, e, (0, refl))
      | inr r ↦
          let w = any_witness (λ c. leads n g c b) (needs_of g a) r.1 in
          let p = path_of n g w.0 b w.2 in
          (w.0, w.1, (suc p.2.0, (p.0, p.1, p.2.1)))
    ]

-- ---- a path that passes no node twice

Trail : List (List ℕ) → ℕ → List ℕ → ℕ → Type 0
Trail g a [] b = a ≡ b
Trail g a (x ∷ xs) b = (needs g a x ≡ true) × Trail g x xs b

Apart : List ℕ → Type 0
Apart [] = Unit {0}
Apart (x ∷ xs) = (list_any (nat_eq x) xs ≡ false) × Apart xs

apart_all : (x : ℕ) (xs : List ℕ) → list_any (nat_eq x) xs ≡ false → AllByRecursion (λ y. nat_eq x y ≡ false) xs
apart_all x [] h = tt
apart_all x (y ∷ xs) h = let r = or_neither (eqb x y) (list_any (nat_eq x) xs) h in (r.0, apart_all x xs r.1)

distinct : (xs : List ℕ) → Apart xs → IsDistinct nat_eq xs
unfolding Apart IsDistinct
distinct [] h = tt
distinct (x ∷ xs) h = IsDistinct-cons nat_eq x xs (apart_all x xs h.0) (distinct xs h.1)

abbrev Simple : List (List ℕ) → ℕ → ℕ → Type 0
Simple g a b = (xs : List ℕ) × Trail g a xs b × Apart (a ∷ xs)

suffix : (g : List (List ℕ)) (a b c : ℕ) (xs : List ℕ) → Trail g c xs b → Apart (c ∷ xs) → list_any (nat_eq a) (c ∷ xs) ≡ true → Simple g a b
unfolding Trail Apart
suffix g a b c [] t d h =
    elim (or_cases (eqb a c) false h) [
      | inl e ↦ ([], eqb-true a c e ∙ t, (refl, tt))
      | inr r ↦ cc
    ]
suffix g a b c (x ∷ xs) t d h =
    elim (or_cases (eqb a c) (list_any (nat_eq a) (x ∷ xs)) h) [
      | inl e ↦ let q = sym (eqb-true a c e) in (x ∷ xs, subst (λ z. Trail g z (x ∷ xs) b) q t, subst (λ z. Apart (z ∷ x ∷ xs)) q d)
      | inr r ↦ suffix g a b x xs t.1 d.1 r.1
    ]

simple : (n : ℕ) (g : List (List ℕ)) (a b : ℕ) → ReachesIn n g a b → Simple g a b
unfolding Trail Apart
simple zero g a b h = ([], h, (refl, tt))
simple (suc n) g a b h = by (simple n g h.0 b h.2)
  where
    by : Simple g h.0 b → Simple g a b
    by s = fork (list_any (nat_eq a) (h.0 ∷ s.0)) refl
      where
        fork : (t : Bool) → list_any (nat_eq a) (h.0 ∷ s.0) ≡ t → Simple g a b
        fork true e = suffix g a b h.0 s.0 s.1 s.2 e
        fork false e = (h.0 ∷ s.0, (h.1, s.1), (e, s.2))

trail_below : (g : List (List ℕ)) (a b : ℕ) (xs : List ℕ) → b < length g → Trail g a xs b → (q : ℕ) → list_any (nat_eq q) (a ∷ xs) ≡ true → q < length g
unfolding Trail
trail_below g a b [] lt t q h =
    elim (or_cases (eqb q a) false h) [
      | inl e ↦ subst (λ z. z < length g) (sym (eqb-true q a e ∙ t)) lt
      | inr r ↦ cc
    ]
trail_below g a b (x ∷ xs) lt t q h =
    elim (or_cases (eqb q a) (list_any (nat_eq q) (x ∷ xs)) h) [
      | inl e ↦ subst (λ z. z < length g) (sym (eqb-true q a e)) (needs_below g a x t.0)
      | inr r ↦ trail_below g x b xs lt t.1 q r.1
    ]

leads_along : (k : ℕ) (g : List (List ℕ)) (z a b : ℕ) (xs : List ℕ) → length xs ≤ k → needs g z a ≡ true → Trail g a xs b → leads k g z b ≡ true
unfolding Trail
leads_along zero g z a b [] le e t = subst (λ v. needs g z v ≡ true) t e
leads_along (suc k) g z a b [] le e t = or_left (needs g z b) _ (subst (λ v. needs g z v ≡ true) t e)
leads_along zero g z a b (x ∷ xs) le e t = absurd (omega arith)
leads_along (suc k) g z a b (x ∷ xs) le e t =
    or_right (needs g z b) _ (any_hit (λ c. leads k g c b) (needs_of g z) a e (leads_along k g a x b xs (omega arith) t.0 t.1))

-- ---- the law, in both directions

pub path_of_circular : (g : List (List ℕ)) (a : ℕ) → is_circular g a ≡ true → Path g a a
path_of_circular g a h = path_of (length g) g a a h

pub circular_of_path : (g : List (List ℕ)) (a : ℕ) → Path g a a → is_circular g a ≡ true
circular_of_path g a p =
    let lt : a < length g = needs_below g a p.0 p.1 in
    let s = simple p.2.0 g p.0 a p.2.1 in
    let few = length-le_from_distinct_below (p.0 ∷ s.0) (length g) (distinct (p.0 ∷ s.0) s.2) (trail_below g p.0 a s.0 lt s.1) in
    leads_along (length g) g a p.0 a s.0 (omega arith) p.1 s.1

-- ---- joined paths

-- where in a row a need stands
pub any_index : (xs : List ℕ) (b : ℕ) → list_any (nat_eq b) xs ≡ true → (i : ℕ) × (i < length xs) × (get_or xs i 0 ≡ b)
any_index [] b h = cc
any_index (x ∷ xs) b h =
    elim (or_cases (eqb b x) (list_any (nat_eq b) xs) h) [
      | inl e ↦ (0, omega arith, sym (eqb-true b x e))
      | inr r ↦ let w = any_index xs b r.1 in (suc w.0, omega arith, w.2)
    ]

pub index_any : (xs : List ℕ) (i : ℕ) → i < length xs → list_any (nat_eq (get_or xs i 0)) xs ≡ true
index_any [] i h = absurd (omega arith)
index_any (x ∷ xs) zero h = or_left (eqb x x) _ (eq-eqb x x refl)
index_any (x ∷ xs) (suc i) h = or_right (eqb (get_or xs i 0) x) _ (index_any xs i (omega arith))

pub step_path : (n : ℕ) (g : List (List ℕ)) (a b : ℕ) → ReachesIn (suc n) g a b → Path g a b
step_path n g a b r = (r.0, r.1, (n, r.2))

pub path_step : (g : List (List ℕ)) (a b : ℕ) → Path g a b → Reaches g a b
path_step g a b p = (suc p.2.0, (p.0, p.1, p.2.1))

pub one_need : (g : List (List ℕ)) (a b : ℕ) → needs g a b ≡ true → Reaches g a b
one_need g a b h = (1, (b, h, refl))

pub join : (n : ℕ) (g : List (List ℕ)) (a b c : ℕ) → ReachesIn n g a b → Reaches g b c → Reaches g a c
join zero g a b c e r = subst (λ z. Reaches g z c) (sym e) r
join (suc n) g a b c h r = let t = join n g h.0 b c h.2 r in (suc t.0, (h.0, h.1, t.1))

pub joined : (g : List (List ℕ)) (a b c : ℕ) → Reaches g a b → Reaches g b c → Reaches g a c
joined g a b c l r = join l.0 g a b c l.1 r
