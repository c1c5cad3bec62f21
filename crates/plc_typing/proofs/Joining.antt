-- Variables that are put into a scope, one after the other.
use Rattle.std.proofs.Common.{◌≡◌, refl, sym, ap, ◌∙◌, ℕ, ◌+◌, ◌<◌, List, [], ◌∷◌, ◌++◌, length, map, take, get_or, append-nil, Bool, true, false, Option, Some, None}
use Rattle.std.specs.Cmp.Lexicographic.{pointwise}
use Rattle.std.specs.Prelude.{cond, ◌&&◌, ◌==◌, if◌then◌else◌}
use Rattle.std.specs.List.{flat_map}
use Rattle.std.specs.Option.{option_or}
use Rattle.std.specs.Str.{bytes_eq}
use Rattle.std.proofs.lemmas.List.{take_more, map-append}
use Rattle.std.proofs.lemmas.Grind.{flat_map-append}
use Rattle.plc_base.specs.declared.elem.Elem.{Elem}
use Rattle.plc_typing.specs.Scope.{Variable, type_in, types_of, IsJoined}

-- how the map compares words, and bytes
pub pointwise_is : (xs ys : List ℕ) → pointwise (λ x y. x == y) xs ys ≡ bytes_eq xs ys
pointwise_is [] [] = refl
pointwise_is [] (y ∷ ys) = refl
pointwise_is (x ∷ xs) [] = refl
pointwise_is (x ∷ xs) (y ∷ ys) = ap (λ b. (x == y) && b) (pointwise_is xs ys)

option_or-assoc : {A : Type 0} (x y z : Option A) → option_or x (option_or y z) ≡ option_or (option_or x y) z
option_or-assoc None y z = refl
option_or-assoc (Some a) y z = refl

option_or-none : {A : Type 0} (x : Option A) → option_or x None ≡ x
option_or-none None = refl
option_or-none (Some a) = refl

pub type_in-append : (vs ws : List Variable) (name : List ℕ) → type_in (vs ++ ws) name ≡ option_or (type_in ws name) (type_in vs name)
type_in-append [] ws name = sym (option_or-none (type_in ws name))
type_in-append (v ∷ vs) ws name =
    let here : Option Elem = if bytes_eq v.0 name then Some v.1 else None in
    ap (λ x. option_or x here) (type_in-append vs ws name) ∙ sym (option_or-assoc (type_in ws name) (type_in vs name) here)

-- one variable
pub joined_one : (b : Bool) (elem : Elem) (old : Option Elem) → cond b (Some elem) old ≡ option_or (if b then Some elem else None) old
joined_one true elem old = refl
joined_one false elem old = refl

pub joined-then : (vs ws a b c : List Variable) → IsJoined a vs b → IsJoined b ws c → IsJoined a (vs ++ ws) c
joined-then vs ws a b c h g name =
    g name ∙ ap (option_or (type_in ws name)) (h name) ∙ option_or-assoc (type_in ws name) (type_in vs name) (types_of a name) ∙ ap (λ x. option_or x (types_of a name)) (sym (type_in-append vs ws name))

pub joined_as : (vs ws a b : List Variable) → vs ≡ ws → IsJoined a vs b → IsJoined a ws b
joined_as vs ws a b e h name = h name ∙ ap (λ us. option_or (type_in us name) (types_of a name)) e

-- ---- loops over lists, each element with its variables

module _ {X : Type 0} (xs : List X) (k : ℕ) (x : X) (lt : k < length xs) (is : x ≡ get_or xs k x) (a b c : List Variable) where
  pub joins_on : (f : X → List Variable) → IsJoined a (flat_map f (take k xs)) b → IsJoined b (f x) c → IsJoined a (flat_map f (take (k + 1) xs)) c
  joins_on f h g =
      joined_as (flat_map f (take k xs) ++ f x) (flat_map f (take (k + 1) xs)) a c
      (sym (ap (flat_map f) (take_more xs k x lt) ∙ flat_map-append f (take k xs) (get_or xs k x ∷ []) ∙ ap (λ y. flat_map f (take k xs) ++ (f y ++ [])) (sym is) ∙ ap (λ ys. flat_map f (take k xs) ++ ys) (append-nil (f x))))
      (joined-then (flat_map f (take k xs)) (f x) a b c h g)

  pub joins_one : (f : X → Variable) → IsJoined a (map f (take k xs)) b → IsJoined b (f x ∷ []) c → IsJoined a (map f (take (k + 1) xs)) c
  joins_one f h g =
      joined_as (map f (take k xs) ++ f x ∷ []) (map f (take (k + 1) xs)) a c
      (sym (ap (map f) (take_more xs k x lt) ∙ map-append f (take k xs) (get_or xs k x ∷ []) ∙ ap (λ y. map f (take k xs) ++ f y ∷ []) (sym is)))
      (joined-then (map f (take k xs)) (f x ∷ []) a b c h g)
