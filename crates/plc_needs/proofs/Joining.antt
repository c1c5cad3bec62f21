-- The names that a program organisation unit declares itself, one after the other.
use Rattle.std.proofs.Common.{◌≡◌, refl, sym, ap, ◌∙◌, ℕ, ◌+◌, ◌<◌, List, [], ◌∷◌, ◌++◌, length, map, take, get_or, Bool, true, false, Vec, Global}
use Rattle.std.specs.Prelude.{◌||◌, if◌then◌else◌}
use Rattle.std.specs.List.{list_any}
use Rattle.std.specs.Str.{bytes_eq}
use Rattle.std.proofs.Math.Bool.{or-false}
use Rattle.std.proofs.lemmas.List.{take_more, map-append}
use Rattle.std.proofs.lemmas.List.Folds.{list_any-append}
use Rattle.std.proofs.lemmas.Slice.Eq.{bytes_eq-Decides}
use Rattle.plc_names.specs.Needs.{IsOwn}
use Rattle.plc_needs.specs.Own.{has, Joins}

or_assoc : (a b c : Bool) → ((a || b) || c) ≡ (a || (b || c))
or_assoc true b c = refl
or_assoc false b c = refl

-- ---- keys

abbrev pub names_of : List (Vec ℕ Global) → List (List ℕ)
names_of keys = map (λ (k : Vec ℕ Global). k.items) keys

-- whether a key has these bytes
pub has-keys : (name : List ℕ) (keys : List (Vec ℕ Global)) → list_any (λ k. bytes_eq name k.items) keys ≡ has (names_of keys) name
has-keys name [] = refl
has-keys name (k ∷ keys) = ap (λ b. bytes_eq name k.items || b) (has-keys name keys)

has-more : (keys : List (Vec ℕ Global)) (key : Vec ℕ Global) (other : List ℕ) → has (names_of (keys ++ key ∷ [])) other ≡ (has (names_of keys) other || bytes_eq other key.items)
has-more keys key other =
    ap (list_any (bytes_eq other)) (map-append (λ (k : Vec ℕ Global). k.items) keys (key ∷ []))
    ∙ list_any-append (bytes_eq other) (names_of keys) (key.items ∷ [])
    ∙ ap (λ b. has (names_of keys) other || b) (or-false (bytes_eq other key.items))

-- one key is put in, unless it is there
pub joins_key : (keys new : List (Vec ℕ Global)) (key : Vec ℕ Global) → new ≡ (if list_any (λ k. bytes_eq key.items k.items) keys then keys else keys ++ key ∷ [])
    → Joins (names_of keys) (λ other. bytes_eq other key.items) (names_of new)
joins_key keys new key is other = by (list_any (λ k. bytes_eq key.items k.items) keys) refl
  where
    kept : Bool → List (Vec ℕ Global)
    kept there = if there then keys else keys ++ key ∷ []

    -- a name that is there already adds none
    again : has (names_of keys) key.items ≡ true → (b : Bool) → bytes_eq other key.items ≡ b → has (names_of keys) other ≡ (has (names_of keys) other || b)
    again there false e = sym (or-false (has (names_of keys) other))
    again there true e =
        let at : has (names_of keys) other ≡ true = ap (has (names_of keys)) ((bytes_eq-Decides other key.items).0 e) ∙ there in
        at ∙ sym (ap (λ x. x || true) at)

    by : (there : Bool) → list_any (λ k. bytes_eq key.items k.items) keys ≡ there → has (names_of new) other ≡ (has (names_of keys) other || bytes_eq other key.items)
    by true e = ap (λ ks. has (names_of ks) other) (is ∙ ap kept e) ∙ again (sym (has-keys key.items keys) ∙ e) (bytes_eq other key.items) refl
    by false e = ap (λ ks. has (names_of ks) other) (is ∙ ap kept e) ∙ has-more keys key other

-- ---- lists

-- none
pub joins_none : (a : List (List ℕ)) → Joins a (λ name. false) a
joins_none a name = sym (or-false (has a name))

-- a loop over a list, each element with its names
pub joins_on : {X : Type 0} (f : X → IsOwn) (xs : List X) (k : ℕ) (x : X) (a b c : List (List ℕ)) → k < length xs → x ≡ get_or xs k x
    → Joins a (λ name. list_any (λ y. f y name) (take k xs)) b → Joins b (f x) c → Joins a (λ name. list_any (λ y. f y name) (take (k + 1) xs)) c
joins_on {X} f xs k x a b c lt is h g name =
    let before = list_any (λ y. f y name) (take k xs) in
    let more : list_any (λ y. f y name) (take (k + 1) xs) ≡ (before || f x name) =
    ap (list_any (λ (y : X). f y name)) (take_more xs k x lt) ∙ list_any-append (λ y. f y name) (take k xs) (get_or xs k x ∷ [])
    ∙ ap (λ b. before || b) (or-false (f (get_or xs k x) name)) ∙ ap (λ y. before || f y name) (sym is) in
    g name ∙ ap (λ b. b || f x name) (h name) ∙ or_assoc (has a name) before (f x name) ∙ ap (λ b. has a name || b) (sym more)
