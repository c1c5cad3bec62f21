-- What lists of entries add to a row, one after the other.
use Rattle.std.proofs.Common.{◌≡◌, refl, sym, ap, ◌∙◌, ℕ, ◌+◌, ◌<◌, ◌≤◌, Bool, List, [], ◌∷◌, ◌++◌, map, length, take, get_or, append_assoc, append-nil, length-append, arith, Some}
use Rattle.std.specs.List.{flat_map, enumerate_from}
use Rattle.std.proofs.lemmas.List.{take_more, take_all, map_more}
use Rattle.std.proofs.lemmas.List.FromFn.{length-enumerate_from, get_or-enumerate_from}
use Rattle.std.proofs.lemmas.Grind.{flat_map-append}
use Rattle.plc_tree.specs.declared.tree.Unit.{Unit as Source}
use Rattle.plc_names.specs.Items.{Item}
use Rattle.plc_names.specs.Declarations.{Entry, made_of, declared_of, declared_from, item_entries}
use Rattle.plc_declared.specs.declared.row.Declared.{Declared}
use Rattle.plc_declared.specs.declared.order.Item.{Item as Numbered}
use Rattle.plc_declared.specs.Order.{seen}
use Rattle.plc_declared.specs.Row.{add, added, entries_of, numbered_entries}

-- one list, and then the other one
pub added_then : (own : Bool) (row : Declared) (xs ys : List Entry) → added own row (xs ++ ys) ≡ added own (added own row xs) ys
added_then own row [] ys = refl
added_then own row (x ∷ xs) ys = added_then own (add own row x) xs ys

-- a loop over a list, each element with some entries, where x stands beyond the list
pub added_one : (own : Bool) (row now next : Declared) {X : Type 0} (xs : List X) (k : ℕ) (x : X) (f : X → List Entry)
    → k < length xs → now ≡ added own row (flat_map f (take k xs)) → next ≡ added own now (f (get_or xs k x)) → next ≡ added own row (flat_map f (take (k + 1) xs))
added_one own row now next xs k x f lt h g =
    g ∙ ap (λ r. added own r (f (get_or xs k x))) h ∙ sym (added_then own row (flat_map f (take k xs)) (f (get_or xs k x)))
    ∙ ap (added own row) (sym (ap (flat_map f) (take_more xs k x lt) ∙ flat_map-append f (take k xs) (get_or xs k x ∷ []) ∙ ap (λ es. flat_map f (take k xs) ++ es) (append-nil (f (get_or xs k x)))))

-- the same with the element itself, with one entry or with some
module _ (own : Bool) (row now next : Declared) {X : Type 0} (xs : List X) (k : ℕ) (x : X) where
  pub added_more : (f : X → Entry) → k < length xs → x ≡ get_or xs k x → now ≡ added own row (map f (take k xs)) → next ≡ add own now (f x) → next ≡ added own row (map f (take (k + 1) xs))
  added_more f lt is h g =
      g ∙ ap (λ r. add own r (f x)) h ∙ sym (added_then own row (map f (take k xs)) (f x ∷ []))
      ∙ ap (added own row) (sym (map_more f xs k x lt ∙ ap (λ y. map f (take k xs) ++ f y ∷ []) (sym is)))

  pub added_on : (f : X → List Entry) → k < length xs → x ≡ get_or xs k x → now ≡ added own row (flat_map f (take k xs)) → next ≡ added own now (f x) → next ≡ added own row (flat_map f (take (k + 1) xs))
  added_on f lt is h g = added_one own row now next xs k x f lt h (g ∙ ap (λ y. added own now (f y)) is)

-- ... over numbered elements
module _ (own : Bool) (row now : Declared) {X : Type 0} (first : ℕ) (xs : List X) (k : ℕ) (f : ℕ × X → List Entry) where
  pub added_numbered : (next : Declared) (x : X) → k < length xs → x ≡ get_or xs k x → now ≡ added own row (flat_map f (take k (enumerate_from first xs))) → next ≡ added own now (f (first + k, x))
      → next ≡ added own row (flat_map f (take (k + 1) (enumerate_from first xs)))
  added_numbered next x lt is h g =
      added_on own row now next (enumerate_from first xs) k (first + k, x) f (omega (arith, length-enumerate_from first xs))
      (sym (get_or-enumerate_from first xs k (first + k, x) lt ∙ (λ i. (first + k, sym is i)))) h g

  pub all_numbered : length xs ≤ k → now ≡ added own row (flat_map f (take k (enumerate_from first xs))) → now ≡ added own row (flat_map f (enumerate_from first xs))
  all_numbered le h = h ∙ ap (λ es. added own row (flat_map f es)) (take_all k (enumerate_from first xs) (omega (arith, length-enumerate_from first xs)))

-- ---- a row behind entries is that of the definition

pub made_added : (own : Bool) (row : Declared) (xs : List Entry) → (added own row xs).made ≡ row.made ++ flat_map made_of xs
unfolding add
made_added own row [] = sym (append-nil row.made)
made_added own row (x ∷ xs) = made_added own (add own row x) xs ∙ append_assoc row.made (made_of x) (flat_map made_of xs)

pub names_added : (own : Bool) (row : Declared) (xs : List Entry) → (added own row xs).names ≡ row.names ++ declared_from own (length row.made) xs
unfolding add
names_added own row [] = sym (append-nil row.names)
names_added own row (x ∷ xs) =
    let first = declared_of own (length row.made) x in
    names_added own (add own row x) xs
    ∙ ap (λ n. (row.names ++ first) ++ declared_from own n xs) (length-append row.made (made_of x))
    ∙ append_assoc row.names first (declared_from own (length row.made + length (made_of x)) xs)

-- the entries of numbered items are those of the definition
pub entries_seen : (first config : ℕ) (u : Source) (numbered : List Numbered) (items : List Item) → map (seen u) numbered ≡ map Some items
    → flat_map (numbered_entries first config u) numbered ≡ flat_map (item_entries first config) items
entries_seen first config u [] [] h = refl
entries_seen first config u [] (a ∷ items) h = cc
entries_seen first config u (x ∷ xs) [] h = cc
entries_seen first config u (x ∷ xs) (a ∷ items) h =
    let head : seen u x ≡ Some a = cc in
    let tail : map (seen u) xs ≡ map Some items = cc in
    λ i. entries_of first config (head i) ++ entries_seen first config u xs items tail i
