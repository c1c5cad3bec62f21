-- The numbered items stand in the order of the definition.
use Rattle.std.proofs.Common.{◌≡◌, refl, sym, ap, ◌∙◌, ℕ, ◌+◌, ◌<◌, ◌≤◌, List, [], ◌∷◌, ◌++◌, map, length, take, get_or, zero-add, arith, Bool, true, false, Option, Some, None}
use Rattle.std.specs.Prelude.{nat_le, if◌then◌else◌}
use Rattle.std.specs.Option.{option_map}
use Rattle.std.specs.List.{enumerate_from}
use Rattle.std.proofs.lemmas.List.{map-append, map_more, take_all}
use Rattle.std.proofs.lemmas.List.FromFn.{length-enumerate_from, get_or-enumerate_from}
use Rattle.std.proofs.lemmas.Option.{slice_get_read}
use Rattle.plc_tree.specs.declared.tree.Unit.{Unit as Source}
use Rattle.plc_tree.specs.declared.tree.TypeDef.{TypeDef}
use Rattle.plc_tree.specs.declared.tree.Pou.{Pou}
use Rattle.plc_names.specs.Items.{What, AType, APou, Item, type_item, pou_item, merge, merge_item}
use Rattle.plc_declared.specs.declared.order.Item.{Item as Numbered}
use Rattle.plc_declared.specs.declared.order.What.TheVariants as which
use Rattle.plc_declared.specs.Order.{tree_of, at_token, seen, merged, merged_item}

-- one more item
pub seen_more : (u : Source) (numbered : List Numbered) (x : Numbered) (items : List Item) (a : Item) → map (seen u) numbered ≡ map Some items → seen u x ≡ Some a
    → map (seen u) (numbered ++ x ∷ []) ≡ map Some (items ++ a ∷ [])
seen_more u numbered x items a h is =
    map-append (seen u) numbered (x ∷ []) ∙ (λ i. h i ++ is i ∷ []) ∙ sym (map-append Some items (a ∷ []))

-- the token of an item is that of its number
token_seen : (u : Source) (x : Numbered) (a : Item) → seen u x ≡ Some a → x.token ≡ a.token
token_seen u x a h = by (tree_of u x.what) h
  where
    by : (o : Option What) → option_map (at_token x.token) o ≡ Some a → x.token ≡ a.token
    by None e = cc
    by (Some w) e = let same : at_token x.token w ≡ a = cc in ap (λ (i : Item). i.token) same

choice : {A B C : Type 0} (f : A → C) (g : B → C) (s t : Bool) (p p2 : List A) (q q2 : List B) → s ≡ t → map f p ≡ map g q → map f p2 ≡ map g q2
    → map f (if s then p else p2) ≡ map g (if t then q else q2)
choice f g true true p p2 q q2 e h k = h
choice f g false false p p2 q q2 e h k = k
choice f g true false p p2 q q2 e h k = cc
choice f g false true p p2 q q2 e h k = cc

item_seen : (u : Source) (x : Numbered) (a : Item) (f : List Numbered → List Numbered) (g : List Item → List Item) → seen u x ≡ Some a
    → ((ys : List Numbered) (bs : List Item) → map (seen u) ys ≡ map Some bs → map (seen u) (f ys) ≡ map Some (g bs))
    → (ys : List Numbered) (bs : List Item) → map (seen u) ys ≡ map Some bs → map (seen u) (merged_item x f ys) ≡ map Some (merge_item a g bs)
item_seen u x a f g is later [] [] e = λ i. is i ∷ later [] [] refl i
item_seen u x a f g is later [] (b ∷ bs) e = cc
item_seen u x a f g is later (y ∷ ys) [] e = cc
item_seen u x a f g is later (y ∷ ys) (b ∷ bs) e =
    let head : seen u y ≡ Some b = cc in
    let tail : map (seen u) ys ≡ map Some bs = cc in
    choice (seen u) Some (nat_le x.token y.token) (nat_le a.token b.token) (x ∷ f (y ∷ ys)) (y ∷ merged_item x f ys) (a ∷ g (b ∷ bs)) (b ∷ merge_item a g bs)
    (λ i. nat_le (token_seen u x a is i) (token_seen u y b head i))
    (λ i. is i ∷ later (y ∷ ys) (b ∷ bs) e i)
    (λ i. head i ∷ item_seen u x a f g is later ys bs tail i)

pub merged_seen : (u : Source) (xs ys : List Numbered) (items bs : List Item) → map (seen u) xs ≡ map Some items → map (seen u) ys ≡ map Some bs → map (seen u) (merged xs ys) ≡ map Some (merge items bs)
merged_seen u [] ys [] bs h g = g
merged_seen u [] ys (a ∷ items) bs h g = cc
merged_seen u (x ∷ xs) ys [] bs h g = cc
merged_seen u (x ∷ xs) ys (a ∷ items) bs h g =
    let head : seen u x ≡ Some a = cc in
    let tail : map (seen u) xs ≡ map Some items = cc in
    item_seen u x a (merged xs) (merge items) head (λ zs ds k. merged_seen u xs zs items ds tail k) ys bs g

-- where no item is left in the second list, those of the first one follow
pub none_right : (xs ys : List Numbered) → length ys < 1 → merged xs ys ≡ xs
none_right [] [] lt = refl
none_right (x ∷ xs) [] lt = ap (λ zs. x ∷ zs) (none_right xs [] lt)
none_right xs (y ∷ ys) lt = absurd (omega arith)

-- ---- items of one kind, one after the other

pub type_seen : (u : Source) (k : ℕ) (t : TypeDef) (numbered : List Numbered) → k < length u.types → t ≡ get_or u.types k t → map (seen u) numbered ≡ map Some (map type_item (take k u.types))
    → map (seen u) (numbered ++ record { token = t.at.token; what = which.Type k } ∷ []) ≡ map Some (map type_item (take (k + 1) u.types))
type_seen u k t numbered lt is h =
    seen_more u numbered (record { token = t.at.token; what = which.Type k }) (map type_item (take k u.types)) (type_item t) h
    (ap (λ o. option_map (at_token t.at.token) (option_map AType o)) (slice_get_read u.types (length u.types) k t refl lt is))
    ∙ ap (map Some) (sym (map_more type_item u.types k t lt ∙ ap (λ d. map type_item (take k u.types) ++ type_item d ∷ []) (sym is)))

pub pou_seen : (u : Source) (k : ℕ) (p : Pou) (numbered : List Numbered) → k < length u.pous → p ≡ get_or u.pous k p → map (seen u) numbered ≡ map Some (map pou_item (take k (enumerate_from 0 u.pous)))
    → map (seen u) (numbered ++ record { token = p.at.token; what = which.Pou k } ∷ []) ≡ map Some (map pou_item (take (k + 1) (enumerate_from 0 u.pous)))
pou_seen u k p numbered lt is h =
    seen_more u numbered (record { token = p.at.token; what = which.Pou k }) (map pou_item (take k all)) (pou_item (k, p)) h
    (ap (λ o. option_map (at_token p.at.token) (option_map (APou k) o)) (slice_get_read u.pous (length u.pous) k p refl lt is))
    ∙ ap (map Some) (sym (map_more pou_item all k (k, p) (omega (arith, length-enumerate_from 0 u.pous)) ∙ ap (λ d. map pou_item (take k all) ++ pou_item d ∷ []) at))
  where
    all : List (ℕ × Pou)
    all = enumerate_from 0 u.pous

    at : get_or all k (k, p) ≡ (k, p)
    at = get_or-enumerate_from 0 u.pous k (k, p) lt ∙ (λ i. (zero-add k i, sym is i))

pub all_pous : (u : Source) (k : ℕ) → length u.pous ≤ k → take k (enumerate_from 0 u.pous) ≡ enumerate_from 0 u.pous
all_pous u k le = take_all k (enumerate_from 0 u.pous) (omega (arith, length-enumerate_from 0 u.pous))
