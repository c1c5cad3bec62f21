-- The elements of a list that pass a test, with their numbers, as the list grows.
use Rattle.std.proofs.Common.{◌≡◌, refl, sym, ap, ◌∙◌, ℕ, ◌+◌, ◌<◌, ◌≤◌, List, [], ◌∷◌, ◌++◌, take, get_or, length, map, filter, Bool, true, false, cond, arith}
use Rattle.std.specs.Prelude.{nat_eq, if◌then◌else◌}
use Rattle.std.specs.List.{enumerate_from}
use Rattle.std.proofs.lemmas.Bool.Decides.{nat_tests}
use Rattle.std.proofs.lemmas.List.{take_more, length-take-le, map-append, append-nil}
use Rattle.std.proofs.lemmas.List.Elements.{filter-append}
use Rattle.plc_names.specs.declared.declarations.Declaration.{Declaration}
use Rattle.plc_names.specs.declared.declarations.Made.{Made}
use Rattle.plc_names.specs.declared.types.TypeId.TheVariants as type_id
use Rattle.plc_names.specs.Lookup.{members_in, has_value, owners_in}
use Rattle.plc_scopes.specs.Lists.{list_at, Adds}

enumerate-append : {X : Type 0} (n : ℕ) (xs : List X) (x : X) → enumerate_from n (xs ++ x ∷ []) ≡ enumerate_from n xs ++ (n + length xs, x) ∷ []
enumerate-append n [] x = ap (λ j. (j, x) ∷ []) (let e : n ≡ n + 0 = omega arith in e)
enumerate-append n (y ∷ ys) x =
    let e : n + 1 + length ys ≡ n + length (y ∷ ys) = omega arith in
    ap (λ zs. (n, y) ∷ zs) (enumerate-append (n + 1) ys x ∙ ap (λ j. enumerate_from (n + 1) ys ++ (j, x) ∷ []) e)

module _ {X Y : Type 0} (test : ℕ × X → Bool) (f : ℕ × X → Y) where
  abbrev picked : ℕ → List X → List Y
  picked n xs = map f (filter test (enumerate_from n xs))

  one : (b : Bool) (p : ℕ × X) → map f (cond b (p ∷ []) []) ≡ cond b (f p ∷ []) []
  one true p = refl
  one false p = refl

  picked-append : (n : ℕ) (xs : List X) (x : X) → picked n (xs ++ x ∷ []) ≡ picked n xs ++ cond (test (n + length xs, x)) (f (n + length xs, x) ∷ []) []
  picked-append n xs x =
      ap (λ ps. map f (filter test ps)) (enumerate-append n xs x)
      ∙ ap (map f) (filter-append test (enumerate_from n xs) ((n + length xs, x) ∷ []))
      ∙ map-append f (filter test (enumerate_from n xs)) (filter test ((n + length xs, x) ∷ []))
      ∙ ap (λ ys. picked n xs ++ ys) (one (test (n + length xs, x)) (n + length xs, x))

  picked-more : (xs : List X) (k : ℕ) (x : X) → k < length xs → x ≡ get_or xs k x → picked 0 (take (k + 1) xs) ≡ picked 0 (take k xs) ++ cond (test (k, x)) (f (k, x) ∷ []) []
  picked-more xs k x lt is =
      let n : 0 + length (take k xs) ≡ k = omega (arith, length-take-le k xs (omega arith)) in
      ap (picked 0) (take_more xs k x lt ∙ ap (λ y. take k xs ++ y ∷ []) (sym is))
      ∙ picked-append 0 (take k xs) x
      ∙ ap (λ j. picked 0 (take k xs) ++ cond (test (j, x)) (f (j, x) ∷ []) []) n

-- ---- the members of each scope

apart : (a s count : ℕ) → count ≤ a → s < count → nat_eq a s ≡ false
apart a s count h g = grind (arith, nat_tests)

module _ (ds : List Declaration) (k : ℕ) (d : Declaration) (lt : k < length ds) (is : d ≡ get_or ds k d) where
  members-more : (scope : ℕ) → members_in (take (k + 1) ds) scope ≡ members_in (take k ds) scope ++ cond (nat_eq d.scope scope) (k ∷ []) []
  members-more scope = picked-more (λ (p : ℕ × Declaration). nat_eq p.1.scope scope) (λ (p : ℕ × Declaration). p.0) ds k d lt is

  module _ (count : ℕ) (old : List (List ℕ)) (before : (scope : ℕ) → scope < count → list_at old scope ≡ members_in (take k ds) scope) where
    pub members-added : (new : List (List ℕ)) → Adds d.scope k old new → (scope : ℕ) → scope < count → list_at new scope ≡ members_in (take (k + 1) ds) scope
    members-added new h scope within = h.lists scope ∙ by (nat_eq d.scope scope) ∙ ap (λ xs. xs ++ cond (nat_eq d.scope scope) (k ∷ []) []) (before scope within) ∙ sym (members-more scope)
      where
        by : (b : Bool) → (if b then list_at old scope ++ k ∷ [] else list_at old scope) ≡ list_at old scope ++ cond b (k ∷ []) []
        by true = refl
        by false = sym (append-nil (list_at old scope))

    pub members-passed : count ≤ d.scope → (scope : ℕ) → scope < count → list_at old scope ≡ members_in (take (k + 1) ds) scope
    members-passed beyond scope within =
        before scope within ∙ sym (append-nil (members_in (take k ds) scope))
        ∙ ap (λ b. members_in (take k ds) scope ++ cond b (k ∷ []) []) (sym (apart d.scope scope count beyond within)) ∙ sym (members-more scope)

-- ---- the owners of each name

pub owners-more : (all : List Made) (k : ℕ) (m : Made) → k < length all → m ≡ get_or all k m → (name : List ℕ)
    → owners_in (take (k + 1) all) name ≡ owners_in (take k all) name ++ cond (has_value name m) (type_id.Enum k ∷ []) []
owners-more all k m lt is name = picked-more (λ (p : ℕ × Made). has_value name p.1) (λ (p : ℕ × Made). type_id.Enum p.0) all k m lt is
