-- The laws of the least of the rules that a source breaks.
use Rattle.std.proofs.Common.{◌≡◌, refl, sym, ap, subst, ◌∙◌, ℕ, ◌+◌, ◌<◌, ◌≤◌, List, [], ◌∷◌, ◌++◌, length, take, get_or, append-nil, Bool, true, false, Option, Some, None, Result, OnOk, arith}
use Rattle.std.specs.Prelude.{nat_lt, nat_eq, slice_index_or, ◌&&◌, ◌||◌, if◌then◌else◌}
use Rattle.std.specs.List.{All, flat_map}
use Rattle.std.proofs.lemmas.Bool.Decides.{nat_tests}
use Rattle.std.proofs.lemmas.Grind.{flat_map-append}
use Rattle.std.proofs.lemmas.Result.{on_ok_weaker}
use Rattle.std.proofs.lemmas.List.{take_more, take_all}
use Rattle.std.proofs.lemmas.List.Elements.{All-nil, All-cons, Contains-append_right}
use Rattle.plc_base.specs.declared.refusal.Refusal.{Refusal}
use Rattle.plc_base.specs.Least.{rank, precedes, sooner_of, sooner, least, IsLeast, Meets}

-- ---- the order, on the numbers of tokens and the ranks of rules

abbrev before : ℕ → ℕ → ℕ → ℕ → Bool
before t r u s = nat_lt t u || (nat_eq t u && nat_lt r s)

before_self : (t r : ℕ) → before t r t r ≡ false
before_self t r = grind (arith, nat_tests)

before_back : (t r u s : ℕ) → before t r u s ≡ true → before u s t r ≡ false
before_back t r u s h = grind (arith, nat_tests)

before_both : (t r u s v q : ℕ) → before t r u s ≡ true → before u s v q ≡ true → before t r v q ≡ true
before_both t r u s v q h g = grind (arith, nat_tests)

before_neither : (t r u s v q : ℕ) → before t r u s ≡ false → before u s v q ≡ false → before t r v q ≡ false
before_neither t r u s v q h g = grind (arith, nat_tests)

precedes_self : (a : Refusal) → precedes a a ≡ false
precedes_self a = before_self a.place.token (rank a.rule)

module _ (a b : Refusal) where
  precedes_back : precedes a b ≡ true → precedes b a ≡ false
  precedes_back h = before_back a.place.token (rank a.rule) b.place.token (rank b.rule) h

  module _ (c : Refusal) where
    precedes_both : precedes a b ≡ true → precedes b c ≡ true → precedes a c ≡ true
    precedes_both h g = before_both a.place.token (rank a.rule) b.place.token (rank b.rule) c.place.token (rank c.rule) h g

    precedes_neither : precedes a b ≡ false → precedes b c ≡ false → precedes a c ≡ false
    precedes_neither h g = before_neither a.place.token (rank a.rule) b.place.token (rank b.rule) c.place.token (rank c.rule) h g

-- ---- the sooner of two

sooner_right : (a b : Refusal) → precedes b a ≡ true → sooner_of a b ≡ b
sooner_right a b h = ap (λ x. if x then b else a) h

sooner_left : (a b : Refusal) → precedes b a ≡ false → sooner_of a b ≡ a
sooner_left a b h = ap (λ x. if x then b else a) h

of_three : (a b c : Refusal) → sooner_of (sooner_of a b) c ≡ sooner_of a (sooner_of b c)
of_three a b c = by (precedes b a) (precedes c b) refl refl
  where
    by : (x y : Bool) → precedes b a ≡ x → precedes c b ≡ y → sooner_of (sooner_of a b) c ≡ sooner_of a (sooner_of b c)
    by true true h g = ap (λ r. sooner_of r c) (sooner_right a b h) ∙ sooner_right b c g ∙ sym (sooner_right a c (precedes_both c b a g h)) ∙ ap (sooner_of a) (sym (sooner_right b c g))
    by true false h g = ap (λ r. sooner_of r c) (sooner_right a b h) ∙ sooner_left b c g ∙ sym (sooner_right a b h) ∙ ap (sooner_of a) (sym (sooner_left b c g))
    by false true h g = ap (λ r. sooner_of r c) (sooner_left a b h) ∙ ap (sooner_of a) (sym (sooner_right b c g))
    by false false h g =
        ap (λ r. sooner_of r c) (sooner_left a b h) ∙ sooner_left a c (precedes_neither c b a g h) ∙ sym (sooner_left a b h) ∙ ap (sooner_of a) (sym (sooner_left b c g))

pub sooner_assoc : (x y z : Option Refusal) → sooner (sooner x y) z ≡ sooner x (sooner y z)
sooner_assoc None y z = refl
sooner_assoc (Some a) None z = refl
sooner_assoc (Some a) (Some b) None = refl
sooner_assoc (Some a) (Some b) (Some c) = ap Some (of_three a b c)

-- ---- the least of a list

some_sooner : (a : Refusal) (y : Option Refusal) → sooner (Some a) y ≡ None → ⊥
some_sooner a None e = cc
some_sooner a (Some b) e = cc

pub least-append : (xs ys : List Refusal) → least (xs ++ ys) ≡ sooner (least xs) (least ys)
least-append [] ys = refl
least-append (x ∷ xs) ys = ap (sooner (Some x)) (least-append xs ys) ∙ sym (sooner_assoc (Some x) (least xs) (least ys))

pub none_is_nil : (xs : List Refusal) → least xs ≡ None → xs ≡ []
none_is_nil [] e = refl
none_is_nil (x ∷ xs) e = absurd (some_sooner x (least xs) e)

pub is_least : (xs : List Refusal) (r : Refusal) → least xs ≡ Some r → IsLeast xs r
is_least [] r e = absurd (let x : None ≡ Some r = e in cc)
is_least (x ∷ xs) r e = by (least xs) refl (is_least xs)
  where
    -- the first, where no other one precedes it
    here : All (λ other. precedes other x ≡ false) xs → IsLeast (x ∷ xs) x
    here rest = record { listed = (0, omega arith, refl); first = All-cons (λ other. precedes other x ≡ false) x xs (precedes_self x) rest }

    -- the least of the others
    behind : (s : Refusal) → IsLeast xs s → precedes s x ≡ true → IsLeast (x ∷ xs) s
    behind s rest h = record {
      listed = Contains-append_right (x ∷ []) xs s rest.listed;
      first = All-cons (λ other. precedes other s ≡ false) x xs (precedes_back s x h) rest.first;
    }

    of_two : (s : Refusal) (b : Bool) → precedes s x ≡ b → IsLeast xs s → IsLeast (x ∷ xs) (sooner_of x s)
    of_two s true h rest = subst (IsLeast (x ∷ xs)) (sym (sooner_right x s h)) (behind s rest h)
    of_two s false h rest = subst (IsLeast (x ∷ xs)) (sym (sooner_left x s h)) (here (λ k d lt. precedes_neither (slice_index_or xs k d) s x (rest.first k d lt) h))

    by : (o : Option Refusal) → least xs ≡ o → ((s : Refusal) → least xs ≡ Some s → IsLeast xs s) → IsLeast (x ∷ xs) r
    by None f others =
        let same : Some x ≡ Some r = sym (ap (sooner (Some x)) f) ∙ e in
        let is : x ≡ r = cc in
        let P : List Refusal → Type 0 = λ ys. All (λ other. precedes other x ≡ false) ys in
        subst (IsLeast (x ∷ xs)) is (here (subst P (sym (none_is_nil xs f)) (All-nil (λ other. precedes other x ≡ false))))
    by (Some s) f others =
        let same : Some (sooner_of x s) ≡ Some r = sym (ap (sooner (Some x)) f) ∙ e in
        let is : sooner_of x s ≡ r = cc in
        subst (IsLeast (x ∷ xs)) is (of_two s (precedes s x) refl (others s f))

-- ---- what a pass meets, one after the other

-- one list, and then the other one
pub meets_then : (xs ys : List Refusal) (a b c : Option Refusal) → Meets xs a b → Meets ys b c → Meets (xs ++ ys) a c
meets_then xs ys a b c h g = g ∙ ap (λ o. sooner o (least ys)) h ∙ sooner_assoc a (least xs) (least ys) ∙ ap (sooner a) (sym (least-append xs ys))

-- one list, and then the other one, unless the call that meets it stops
pub meets_next : {T E : Type 0} (r : Result T E) (xs ys : List Refusal) (a b c : Option Refusal) → Meets xs a b → OnOk r (Meets ys b c) → OnOk r (Meets (xs ++ ys) a c)
meets_next r xs ys a b c h g = on_ok_weaker r (meets_then xs ys a b c h) g

-- what is given by an equation
pub meets_as : (xs ys : List Refusal) (a b : Option Refusal) → xs ≡ ys → Meets xs a b → Meets ys a b
meets_as xs ys a b e h = h ∙ ap (λ rs. sooner a (least rs)) e

-- what is met of the elements of a list that is given by an equation
pub meets_each : {X : Type 0} (f : X → List Refusal) (xs ys : List X) (a b : Option Refusal) → xs ≡ ys → Meets (flat_map f xs) a b → Meets (flat_map f ys) a b
meets_each f xs ys a b e h = meets_as (flat_map f xs) (flat_map f ys) a b (ap (flat_map f) e) h

-- a loop over a list, each element with what is met of it
module _ {X : Type 0} (f : X → List Refusal) (xs : List X) (k : ℕ) where
  pub meets_on : (x : X) (a b c : Option Refusal) → k < length xs → x ≡ get_or xs k x
      → Meets (flat_map f (take k xs)) a b → Meets (f x) b c → Meets (flat_map f (take (k + 1) xs)) a c
  meets_on x a b c lt is h g =
      meets_as (flat_map f (take k xs) ++ f x) (flat_map f (take (k + 1) xs)) a c
      (sym (ap (flat_map f) (take_more xs k x lt) ∙ flat_map-append f (take k xs) (get_or xs k x ∷ []) ∙ ap (λ y. flat_map f (take k xs) ++ (f y ++ [])) (sym is) ∙ ap (λ ys. flat_map f (take k xs) ++ ys) (append-nil (f x))))
      (meets_then (flat_map f (take k xs)) (f x) a b c h g)

  pub meets_all : (a b : Option Refusal) → length xs ≤ k → Meets (flat_map f (take k xs)) a b → Meets (flat_map f xs) a b
  meets_all a b le h = meets_as (flat_map f (take k xs)) (flat_map f xs) a b (ap (flat_map f) (take_all k xs le)) h
