-- Declared names, one after the other: those of a list are broken by the words in front of it and by earlier ones of it.
use Rattle.std.proofs.Common.{◌≡◌, refl, sym, ap, subst, ◌∙◌, ℕ, ◌+◌, ◌<◌, ◌≤◌, List, [], ◌∷◌, ◌++◌, length, take, get_or, map, append_assoc, append-nil, add-one, Bool, true, false, Option, Result, OnOk}
use Rattle.std.specs.Prelude.{not, ◌&&◌, ◌||◌, if◌then◌else◌}
use Rattle.std.specs.List.{flat_map, enumerate_from}
use Rattle.std.specs.Str.{bytes_eq}
use Rattle.std.proofs.lemmas.Grind.{flat_map-append}
use Rattle.std.proofs.lemmas.List.{take_more, take_all, map_more, map-append}
use Rattle.std.proofs.lemmas.List.Folds.{list_any-append}
use Rattle.std.proofs.lemmas.Result.{on_ok_weaker}
use Rattle.std.proofs.lemmas.Slice.Eq.{bytes_eq-Decides}
use Rattle.plc_base.specs.declared.refusal.Refusal.{Refusal}
use Rattle.plc_base.specs.Least.{Meets}
use Rattle.plc_base.proofs.LeastLaws.{meets_as, meets_then}
use Rattle.plc_tree.specs.declared.tree.Id.{Id}
use Rattle.plc_typing.specs.Standard.{is_standard, is_one_of}
use Rattle.plc_typing.specs.Uses.{suits, words, name_faults, names_faults}
use Rattle.plc_typing.specs.UsesOfParts.{Declares}
use Rattle.plc_typing.proofs.Faults.{none_of_both, holds}

-- ---- broken names of a list

-- a name behind these words
abbrev pub one_fault : List (List ℕ) → Id → List Refusal
one_fault front n = suits (not (is_one_of front n.name || is_standard n.name)) n.at

-- of a longer list those from a later number on are those of the list without its first name, behind one more word
later_faults : (front : List (List ℕ)) (n : Id) (all ns : List Id) (k : ℕ)
    → flat_map (name_faults front (n ∷ all)) (enumerate_from (k + 1) ns) ≡ flat_map (name_faults (front ++ n.name ∷ []) all) (enumerate_from k ns)
later_faults front n all [] k = refl
later_faults front n all (m ∷ ns) k =
    let one_more : front ++ words (take (k + 1) (n ∷ all)) ≡ (front ++ n.name ∷ []) ++ words (take k all) =
    ap (λ j. front ++ words (take j (n ∷ all))) (add-one k) ∙ sym (append_assoc front (n.name ∷ []) (words (take k all))) in
    λ i. suits (not (is_one_of (one_more i) m.name || is_standard m.name)) m.at ++ later_faults front n all ns (k + 1) i

pub faults-cons : (front : List (List ℕ)) (n : Id) (ns : List Id) → names_faults front (n ∷ ns) ≡ one_fault front n ++ names_faults (front ++ n.name ∷ []) ns
faults-cons front n ns = λ i. one_fault (append-nil front i) n ++ later_faults front n ns ns 0 i

pub faults-append : (front : List (List ℕ)) (xs ys : List Id) → names_faults front (xs ++ ys) ≡ names_faults front xs ++ names_faults (front ++ words xs) ys
faults-append front [] ys = ap (λ ws. names_faults ws ys) (sym (append-nil front))
faults-append front (x ∷ xs) ys =
    faults-cons front x (xs ++ ys)
    ∙ ap (λ us. one_fault front x ++ us) (faults-append (front ++ x.name ∷ []) xs ys ∙ ap (λ ws. names_faults (front ++ x.name ∷ []) xs ++ names_faults ws ys) (append_assoc front (x.name ∷ []) (words xs)))
    ∙ sym (append_assoc (one_fault front x) (names_faults (front ++ x.name ∷ []) xs) (names_faults (front ++ words (x ∷ xs)) ys))
    ∙ ap (λ us. us ++ names_faults (front ++ words (x ∷ xs)) ys) (sym (faults-cons front x xs))

-- which words stand in front counts, and not their order
abbrev Alike : List (List ℕ) → List (List ℕ) → Type 0
Alike a b = (name : List ℕ) → is_one_of a name ≡ is_one_of b name

alike-append : (a b ws : List (List ℕ)) → Alike a b → Alike (a ++ ws) (b ++ ws)
alike-append a b ws h name = list_any-append (bytes_eq name) a ws ∙ ap (λ x. x || is_one_of ws name) (h name) ∙ sym (list_any-append (bytes_eq name) b ws)

faults_alike : (a b : List (List ℕ)) (ids : List Id) → Alike a b → names_faults a ids ≡ names_faults b ids
faults_alike a b [] h = refl
faults_alike a b (n ∷ ns) h =
    faults-cons a n ns
    ∙ (λ i. suits (not (h n.name i || is_standard n.name)) n.at ++ faults_alike (a ++ n.name ∷ []) (b ++ n.name ∷ []) ns (alike-append a b (n.name ∷ []) h) i)
    ∙ sym (faults-cons b n ns)

-- ---- names that are declared

-- one name
new_where : (there standard : Bool) → (not there && not standard) ≡ not (there || standard)
new_where true standard = refl
new_where false standard = refl

or-false : (b : Bool) → (b || false) ≡ b
or-false true = refl
or-false false = refl

pub declares_one : (old now : List (List ℕ)) (n : Id) (new does : Bool) (m o : Option Refusal) → new ≡ not (is_one_of old n.name) → now ≡ (if new then old ++ n.name ∷ [] else old)
    → does ≡ (new && not (is_standard n.name)) → Meets (suits does n.at) m o → Declares (n ∷ []) old now m o
declares_one old now n new does m o fresh is suited met = by (is_one_of old n.name) refl
  where
    same : suits does n.at ≡ names_faults old (n ∷ [])
    same =
        ap (λ b. suits b n.at) (suited ∙ ap (λ b. b && not (is_standard n.name)) fresh ∙ new_where (is_one_of old n.name) (is_standard n.name))
        ∙ sym (append-nil (one_fault old n)) ∙ sym (faults-cons old n [])

    kept : Bool → List (List ℕ)
    kept there = if not there then old ++ n.name ∷ [] else old

    now_is : (there : Bool) → is_one_of old n.name ≡ there → now ≡ kept there
    now_is there e = is ∙ ap (λ b. if b then old ++ n.name ∷ [] else old) (fresh ∙ ap not e)

    -- a word that is there already adds none
    again : is_one_of old n.name ≡ true → (name : List ℕ) (b : Bool) → bytes_eq name n.name ≡ b → is_one_of old name ≡ (is_one_of old name || (b || false))
    again there name false e = sym (or-false (is_one_of old name))
    again there name true e =
        let at : is_one_of old name ≡ true = ap (is_one_of old) ((bytes_eq-Decides name n.name).0 e) ∙ there in
        at ∙ sym (ap (λ x. x || true) at)

    -- a fault of it stands where it isn't new
    no_fault : is_one_of old n.name ≡ true → names_faults old (n ∷ []) ≡ [] → ⊥
    no_fault there none =
        let first = none_of_both (one_fault old n) (names_faults (old ++ n.name ∷ []) []) (sym (faults-cons old n []) ∙ none) in
        let x : false ≡ true = ap (λ b. not (b || is_standard n.name)) (sym there) ∙ holds (not (is_one_of old n.name || is_standard n.name)) n.at first.0 in
        cc

    by : (there : Bool) → is_one_of old n.name ≡ there → Declares (n ∷ []) old now m o
    by true e = record {
      least = meets_as (suits does n.at) (names_faults old (n ∷ [])) m o same met;
      known = λ name. ap (λ ws. is_one_of ws name) (now_is true e) ∙ again e name (bytes_eq name n.name) refl ∙ sym (list_any-append (bytes_eq name) old (n.name ∷ []));
      behind = λ none. absurd (no_fault e none);
    }
    by false e = record {
      least = meets_as (suits does n.at) (names_faults old (n ∷ [])) m o same met;
      known = λ name. ap (λ ws. is_one_of ws name) (now_is false e);
      behind = λ none. now_is false e;
    }

-- one list, and then the other one
pub declares_then : (xs ys : List Id) (w a b : List (List ℕ)) (m n o : Option Refusal) → Declares xs w a m n → Declares ys a b n o → Declares (xs ++ ys) w b m o
declares_then xs ys w a b m n o h g = record {
  least = meets_as (names_faults w xs ++ names_faults a ys) (names_faults w (xs ++ ys)) m o (sym whole) (meets_then (names_faults w xs) (names_faults a ys) m n o h.least g.least);
  known = λ name. g.known name ∙ alike-append a (w ++ words xs) (words ys) h.known name ∙ ap (λ ws. is_one_of ws name) both;
  behind = λ none.
      let parts = none_of_both (names_faults w xs) (names_faults a ys) (sym whole ∙ none) in
      g.behind parts.1 ∙ ap (λ ws. ws ++ words ys) (h.behind parts.0) ∙ both;
}
  where
    whole : names_faults w (xs ++ ys) ≡ names_faults w xs ++ names_faults a ys
    whole = faults-append w xs ys ∙ ap (λ us. names_faults w xs ++ us) (sym (faults_alike a (w ++ words xs) ys h.known))

    both : (w ++ words xs) ++ words ys ≡ w ++ words (xs ++ ys)
    both = append_assoc w (words xs) (words ys) ∙ ap (λ ws. w ++ ws) (sym (map-append (λ (n : Id). n.name) xs ys))

pub declares_next : {T E : Type 0} (r : Result T E) (xs ys : List Id) (w a b : List (List ℕ)) (m n o : Option Refusal)
    → Declares xs w a m n → OnOk r (Declares ys a b n o) → OnOk r (Declares (xs ++ ys) w b m o)
declares_next r xs ys w a b m n o h g = on_ok_weaker r (declares_then xs ys w a b m n o h) g

-- those that are given by an equation
pub declares_as : (xs ys : List Id) (w a : List (List ℕ)) (m n : Option Refusal) → xs ≡ ys → Declares xs w a m n → Declares ys w a m n
declares_as xs ys w a m n e h = let P : List Id → Type 0 = λ ids. Declares ids w a m n in subst P e h

-- a loop over a list, each element with its names
module _ {X : Type 0} (f : X → List Id) (xs : List X) (k : ℕ) where
  pub declares_on : (x : X) (w a b : List (List ℕ)) (m n o : Option Refusal) → k < length xs → x ≡ get_or xs k x
      → Declares (flat_map f (take k xs)) w a m n → Declares (f x) a b n o → Declares (flat_map f (take (k + 1) xs)) w b m o
  declares_on x w a b m n o lt is h g =
      declares_as (flat_map f (take k xs) ++ f x) (flat_map f (take (k + 1) xs)) w b m o
      (sym (ap (flat_map f) (take_more xs k x lt) ∙ flat_map-append f (take k xs) (get_or xs k x ∷ []) ∙ ap (λ y. flat_map f (take k xs) ++ (f y ++ [])) (sym is) ∙ ap (λ ys. flat_map f (take k xs) ++ ys) (append-nil (f x))))
      (declares_then (flat_map f (take k xs)) (f x) w a b m n o h g)

  pub declares_all : (w a : List (List ℕ)) (m n : Option Refusal) → length xs ≤ k → Declares (flat_map f (take k xs)) w a m n → Declares (flat_map f xs) w a m n
  declares_all w a m n le h = declares_as (flat_map f (take k xs)) (flat_map f xs) w a m n (ap (flat_map f) (take_all k xs le)) h

-- each element with one name
pub declares_more : {X : Type 0} (g : X → Id) (xs : List X) (k : ℕ) (x : X) (w a b : List (List ℕ)) (m n o : Option Refusal) → k < length xs → x ≡ get_or xs k x
    → Declares (map g (take k xs)) w a m n → Declares (g x ∷ []) a b n o → Declares (map g (take (k + 1) xs)) w b m o
declares_more g xs k x w a b m n o lt is h next =
    declares_as (map g (take k xs) ++ g x ∷ []) (map g (take (k + 1) xs)) w b m o (sym (map_more g xs k x lt ∙ ap (λ y. map g (take k xs) ++ g y ∷ []) (sym is)))
    (declares_then (map g (take k xs)) (g x ∷ []) w a b m n o h next)
