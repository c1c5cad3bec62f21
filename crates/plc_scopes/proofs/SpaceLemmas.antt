-- The first number of a name, as one more name is entered and as one more declaration is looked at.
use Rattle.std.proofs.Common.{◌≡◌, zero, suc, refl, sym, ap, ◌∙◌, ℕ, ◌+◌, ◌<◌, List, [], ◌∷◌, ◌++◌, take, get_or, length, Bool, true, false, cond, not, Option, Some, None, arith}
use Rattle.std.specs.Prelude.{is_some, nat_eq, ◌&&◌, if◌then◌else◌}
use Rattle.std.specs.List.{position_from}
use Rattle.std.specs.Option.{option_or}
use Rattle.std.specs.Str.{bytes_eq}
use Rattle.std.proofs.lemmas.List.{take_more, length-take-le}
use Rattle.std.proofs.lemmas.Slice.Eq.{bytes_eq-Decides}
use Rattle.plc_names.specs.declared.declarations.Declaration.{Declaration}
use Rattle.plc_names.specs.Lookup.{is_value, is_global, is_there, number_in, is_global_named}
use Rattle.plc_scopes.specs.Firsts.{first_of, entered, space_at, Enters}

-- the scopes that weren't met have no name
pub space-push : (spaces : List (List (List ℕ × ℕ))) (s : ℕ) → space_at (spaces ++ [] ∷ []) s ≡ space_at spaces s
space-push [] zero = refl
space-push [] (suc s) = refl
space-push (x ∷ xs) zero = refl
space-push (x ∷ xs) (suc s) = space-push xs s

-- ---- one more name

or-some : (b : Bool) (x : ℕ) (r q : Option ℕ) → cond b (Some x) (option_or r q) ≡ option_or (cond b (Some x) r) q
or-some true x r q = refl
or-some false x r q = refl

or-none : (o : Option ℕ) → option_or o None ≡ o
or-none None = refl
or-none (Some x) = refl

or-there : (o q : Option ℕ) → is_some o ≡ true → option_or o q ≡ o
or-there None q h = cc
or-there (Some x) q h = refl

first-append : (es : List (List ℕ × ℕ)) (name m : List ℕ) (n : ℕ) → first_of (es ++ (name, n) ∷ []) m ≡ option_or (first_of es m) (cond (bytes_eq m name) (Some n) None)
first-append [] name m n = refl
first-append (e ∷ es) name m n = ap (cond (bytes_eq m e.0) (Some e.1)) (first-append es name m n) ∙ or-some (bytes_eq m e.0) e.1 (first_of es m) (cond (bytes_eq m name) (Some n) None)

pub first-entered : (es : List (List ℕ × ℕ)) (name m : List ℕ) (n : ℕ) → first_of (entered es name n) m ≡ option_or (first_of es m) (cond (bytes_eq m name) (Some n) None)
first-entered es name m n = by (is_some (first_of es name)) refl
  where
    kept : (b : Bool) → bytes_eq m name ≡ b → is_some (first_of es name) ≡ true → first_of es m ≡ option_or (first_of es m) (cond b (Some n) None)
    kept false e there = sym (or-none (first_of es m))
    kept true e there = sym (or-there (first_of es m) (Some n) (ap (λ w. is_some (first_of es w)) ((bytes_eq-Decides m name).0 e) ∙ there))

    by : (b : Bool) → is_some (first_of es name) ≡ b → first_of (entered es name n) m ≡ option_or (first_of es m) (cond (bytes_eq m name) (Some n) None)
    by true e = ap (λ b. first_of (if b then es else es ++ (name, n) ∷ []) m) e ∙ kept (bytes_eq m name) refl e
    by false e = ap (λ b. first_of (if b then es else es ++ (name, n) ∷ []) m) e ∙ first-append es name m n

-- ---- one more declaration

position-append : (p : Declaration → Bool) (i : ℕ) (xs : List Declaration) (x : Declaration) → position_from p i (xs ++ x ∷ []) ≡ option_or (position_from p i xs) (cond (p x) (Some (i + length xs)) None)
position-append p i [] x = ap (λ j. cond (p x) (Some j) None) (let e : i ≡ i + 0 = omega arith in e)
position-append p i (y ∷ ys) x =
    let same : i + 1 + length ys ≡ i + length (y ∷ ys) = omega arith in
    ap (cond (p y) (Some i)) (position-append p (i + 1) ys x ∙ ap (λ n. option_or (position_from p (i + 1) ys) (cond (p x) (Some n) None)) same)
    ∙ or-some (p y) i (position_from p (i + 1) ys) (cond (p x) (Some (i + length (y ∷ ys))) None)

module _ (ds : List Declaration) (k : ℕ) (d : Declaration) (lt : k < length ds) (is : d ≡ get_or ds k d) where
  pub position-more : (p : Declaration → Bool) → position_from p 0 (take (k + 1) ds) ≡ option_or (position_from p 0 (take k ds)) (cond (p d) (Some k) None)
  position-more p =
      let n : 0 + length (take k ds) ≡ k = omega (arith, length-take-le k ds (omega arith)) in
      ap (position_from p 0) (take_more ds k d lt ∙ ap (λ x. take k ds ++ x ∷ []) (sym is))
      ∙ position-append p 0 (take k ds) d
      ∙ ap (λ j. option_or (position_from p 0 (take k ds)) (cond (p d) (Some j) None)) n

  -- one that doesn't count
  pub position-passed : (p : Declaration → Bool) → p d ≡ false → position_from p 0 (take (k + 1) ds) ≡ position_from p 0 (take k ds)
  position-passed p misses = position-more p ∙ ap (λ b. option_or (position_from p 0 (take k ds)) (cond b (Some k) None)) misses ∙ or-none (position_from p 0 (take k ds))

  -- ---- the names of each scope

  no-value : (b : Bool) → not b ≡ false → (a c : Bool) → (a && (not b && c)) ≡ false
  no-value true h true c = refl
  no-value true h false c = refl
  no-value false h a c = cc

  pub number-passed : is_value d.kind ≡ true → (scope : ℕ) (name : List ℕ) → number_in (take (k + 1) ds) scope name ≡ number_in (take k ds) scope name
  number-passed v scope name = position-passed (is_there scope name) (no-value (is_value d.kind) (ap not v) (nat_eq d.scope scope) (bytes_eq name d.name))

  pub number-entered : (old new : List (List (List ℕ × ℕ))) → is_value d.kind ≡ false → Enters d.scope d.name k old new
      → ((scope : ℕ) (name : List ℕ) → first_of (space_at old scope) name ≡ number_in (take k ds) scope name)
      → (scope : ℕ) (name : List ℕ) → first_of (space_at new scope) name ≡ number_in (take (k + 1) ds) scope name
  number-entered old new v h before scope name =
      ap (λ es. first_of es name) (h scope)
      ∙ by (nat_eq d.scope scope) refl
      ∙ (λ i. option_or (before scope name i) (cond (nat_eq d.scope scope && (not (sym v i) && bytes_eq name d.name)) (Some k) None))
      ∙ sym (position-more (is_there scope name))
    where
      by : (b : Bool) → nat_eq d.scope scope ≡ b → first_of (if b then entered (space_at old scope) d.name k else space_at old scope) name
          ≡ option_or (first_of (space_at old scope) name) (cond (b && (not false && bytes_eq name d.name)) (Some k) None)
      by true e = first-entered (space_at old scope) d.name name k
      by false e = sym (or-none (first_of (space_at old scope) name))

  -- ---- the globals

  pub global-passed : is_global d.kind ≡ false → (name : List ℕ) → position_from (is_global_named name) 0 (take (k + 1) ds) ≡ position_from (is_global_named name) 0 (take k ds)
  global-passed v name = position-passed (is_global_named name) (ap (λ b. b && bytes_eq name d.name) v)

  pub global-entered : (old : List (List ℕ × ℕ)) → is_global d.kind ≡ true
      → ((name : List ℕ) → first_of old name ≡ position_from (is_global_named name) 0 (take k ds))
      → (name : List ℕ) → first_of (entered old d.name k) name ≡ position_from (is_global_named name) 0 (take (k + 1) ds)
  global-entered old v before name =
      first-entered old d.name name k
      ∙ (λ i. option_or (before name i) (cond (sym v i && bytes_eq name d.name) (Some k) None))
      ∙ sym (position-more (is_global_named name))
