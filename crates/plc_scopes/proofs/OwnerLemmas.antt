-- Names with a list beside each, as an enumeration is noted at its values.
use Rattle.std.proofs.Common.{◌≡◌, zero, suc, refl, sym, ap, subst, ◌∙◌, ℕ, ◌+◌, ◌-◌, ◌<◌, ◌≤◌, List, [], ◌∷◌, ◌++◌, take, set, get_or, length, map, filter, Bool, true, false, cond, not, Some, arith}
use Rattle.std.specs.Prelude.{nat_eq, ◌||◌, slice_get, if◌then◌else◌}
use Rattle.std.specs.List.{enumerate_from, list_any, position_or_len}
use Rattle.std.specs.Option.{option_map_or}
use Rattle.std.specs.Str.{bytes_eq}
use Rattle.std.proofs.lemmas.Bool.Decides.{nat_tests}
use Rattle.std.proofs.lemmas.List.{length-append, length-take-le, length-set, append-nil}
use Rattle.std.proofs.lemmas.List.Folds.{list_any-append, list_any_more}
use Rattle.std.proofs.lemmas.Slice.Eq.{bytes_eq-Decides}
use Rattle.plc_names.specs.declared.declarations.Made.{Made}
use Rattle.plc_names.specs.declared.types.TypeId.{TypeId}
use Rattle.plc_names.specs.declared.types.TypeId.TheVariants as type_id
use Rattle.plc_names.specs.Lookup.{has_value, owners_in}
use Rattle.plc_scopes.proofs.ListLemmas.{owners-more}
use Rattle.plc_scopes.specs.Lists.{owned, is_enum, is_last, noted, IsPlace, Notes}

-- ---- the place of a name

first-push : {X : Type 0} (p : X → Bool) (xs : List X) (y : X) → p y ≡ true → position_or_len p (xs ++ y ∷ []) ≡ position_or_len p xs
first-push p [] y h = ap (λ b. cond (not b) 1 0) h
first-push p (x ∷ xs) y h = ap (λ n. cond (not (p x)) (1 + n) 0) (first-push p xs y h)

or-true : (a b : Bool) → b ≡ true → (a || (b || false)) ≡ true
or-true true b h = refl
or-true false true h = refl
or-true false false h = cc

any-push : {X : Type 0} (p : X → Bool) (xs : List X) (y : X) → p y ≡ true → list_any p (xs ++ y ∷ []) ≡ true
any-push p xs y h = list_any-append p xs (y ∷ []) ∙ or-true (list_any p xs) (p y) h

first-within : {X : Type 0} (p : X → Bool) (xs : List X) → list_any p xs ≡ true → position_or_len p xs < length xs
first-within p [] h = absurd (let e : false ≡ true = h in cc)
first-within p (x ∷ xs) h = by (p x) h (first-within p xs)
  where
    by : (b : Bool) → (b || list_any p xs) ≡ true → (list_any p xs ≡ true → position_or_len p xs < length xs) → cond (not b) (1 + position_or_len p xs) 0 < suc (length xs)
    by true e rest = omega arith
    by false e rest = let r = rest e in omega arith

same_bytes : (a b : List ℕ) → bytes_eq a b ≡ true → a ≡ b
same_bytes a b = (bytes_eq-Decides a b).0

eq_self : (a : List ℕ) → bytes_eq a a ≡ true
eq_self a = (bytes_eq-Decides a a).1 refl

-- ---- what is beside a name

both : {X : Type 0} (b : Bool) (x : X) → cond b x x ≡ x
both true x = refl
both false x = refl

owned-push : (ws : List (List ℕ)) (ls : List (List TypeId)) (name m : List ℕ) → length ws ≡ length ls → owned (ws ++ name ∷ []) (ls ++ [] ∷ []) m ≡ owned ws ls m
owned-push [] [] name m e = both (bytes_eq m name) []
owned-push [] (l ∷ ls) name m e = cc
owned-push (w ∷ ws) [] name m e = cc
owned-push (w ∷ ws) (l ∷ ls) name m e = ap (cond (bytes_eq m w) l) (owned-push ws ls name m (omega arith))

owned-at : (ws : List (List ℕ)) (ls : List (List TypeId)) (name : List ℕ) (d : List TypeId) → length ws ≡ length ls → list_any (bytes_eq name) ws ≡ true
    → get_or ls (position_or_len (bytes_eq name) ws) d ≡ owned ws ls name
owned-at [] ls name d e h = cc
owned-at (w ∷ ws) [] name d e h = cc
owned-at (w ∷ ws) (l ∷ ls) name d e h = by (bytes_eq name w) h (owned-at ws ls name d (omega arith))
  where
    by : (b : Bool) → (b || list_any (bytes_eq name) ws) ≡ true → (list_any (bytes_eq name) ws ≡ true → get_or ls (position_or_len (bytes_eq name) ws) d ≡ owned ws ls name)
        → get_or (l ∷ ls) (cond (not b) (1 + position_or_len (bytes_eq name) ws) 0) d ≡ cond b l (owned ws ls name)
    by true g rest = refl
    by false g rest =
        let s : 1 + position_or_len (bytes_eq name) ws ≡ suc (position_or_len (bytes_eq name) ws) = omega arith in
        ap (λ n. get_or (l ∷ ls) n d) s ∙ rest g

owned-set : (ws : List (List ℕ)) (ls : List (List TypeId)) (name m : List ℕ) (x : List TypeId) → length ws ≡ length ls → list_any (bytes_eq name) ws ≡ true
    → owned ws (set ls (position_or_len (bytes_eq name) ws) x) m ≡ cond (bytes_eq m name) x (owned ws ls m)
owned-set [] ls name m x e h = cc
owned-set (w ∷ ws) [] name m x e h = cc
owned-set (w ∷ ws) (l ∷ ls) name m x e h = by (bytes_eq name w) refl h (owned-set ws ls name m x (omega arith))
  where
    here : (b : Bool) → cond b x (owned ws ls m) ≡ cond b x (cond b l (owned ws ls m))
    here true = refl
    here false = refl

    -- no name is both
    swap : (a b : Bool) → bytes_eq m w ≡ a → bytes_eq m name ≡ b → bytes_eq name w ≡ false → cond a l (cond b x (owned ws ls m)) ≡ cond b x (cond a l (owned ws ls m))
    swap true true u v n =
        let same : name ≡ w = sym (same_bytes m name v) ∙ same_bytes m w u in
        absurd (let f : true ≡ false = sym (eq_self name) ∙ ap (bytes_eq name) same ∙ n in cc)
    swap true false u v n = refl
    swap false b u v n = refl

    by : (b : Bool) → bytes_eq name w ≡ b → (b || list_any (bytes_eq name) ws) ≡ true
        → (list_any (bytes_eq name) ws ≡ true → owned ws (set ls (position_or_len (bytes_eq name) ws) x) m ≡ cond (bytes_eq m name) x (owned ws ls m))
        → owned (w ∷ ws) (set (l ∷ ls) (cond (not b) (1 + position_or_len (bytes_eq name) ws) 0) x) m ≡ cond (bytes_eq m name) x (cond (bytes_eq m w) l (owned ws ls m))
    by true u g rest = ap (λ v. cond (bytes_eq m v) x (owned ws ls m)) (sym (same_bytes name w u)) ∙ here (bytes_eq m name) ∙ ap (λ v. cond (bytes_eq m name) x (cond (bytes_eq m v) l (owned ws ls m))) (same_bytes name w u)
    by false u g rest =
        let s : 1 + position_or_len (bytes_eq name) ws ≡ suc (position_or_len (bytes_eq name) ws) = omega arith in
        ap (λ n. owned (w ∷ ws) (set (l ∷ ls) n x) m) s
        ∙ ap (cond (bytes_eq m w) l) (rest g)
        ∙ swap (bytes_eq m w) (bytes_eq m name) refl refl u

module _ (name : List ℕ) (ws : List (List ℕ)) (ls : List (List TypeId)) (ws' : List (List ℕ)) (place : ℕ)
    (even : length ws ≡ length ls) (at : place ≡ position_or_len (bytes_eq name) ws) where
  pub place-new : (ls' : List (List TypeId)) → ws' ≡ ws ++ name ∷ [] → ls' ≡ ls ++ [] ∷ [] → IsPlace name place ws ls ws' ls'
  place-new ls' u v =
      let n = ap length u ∙ length-append ws (name ∷ []) in
      let o = ap length v ∙ length-append ls ([] ∷ []) in
      let same : length ws' ≡ length ls' = n ∙ ap (λ k. k + 1) even ∙ sym o in
      let found : list_any (bytes_eq name) ws' ≡ true = ap (list_any (bytes_eq name)) u ∙ any-push (bytes_eq name) ws name (eq_self name) in
      let first : place ≡ position_or_len (bytes_eq name) ws' = at ∙ sym (first-push (bytes_eq name) ws name (eq_self name)) ∙ ap (position_or_len (bytes_eq name)) (sym u) in
      record {
        even = same;
        there = found;
        first = first;
        within = omega (arith, first-within (bytes_eq name) ws' found);
        same = λ m. (λ i. owned (u i) (v i) m) ∙ owned-push ws ls name m even;
      }

  pub place-old : ws' ≡ ws → list_any (bytes_eq name) ws ≡ true → IsPlace name place ws ls ws' ls
  place-old u found =
      subst (λ vs. IsPlace name place ws ls vs ls) (sym u)
      (record { even = even; there = found; first = at; within = omega (arith, first-within (bytes_eq name) ws found); same = λ m. refl })

-- ---- an enumeration is noted

pub notes-one : (name : List ℕ) (number place : ℕ) (ws : List (List ℕ)) (ls : List (List TypeId)) (ws' : List (List ℕ)) (ls' : List (List TypeId)) (old new d : List TypeId)
    → IsPlace name place ws ls ws' ls' → old ≡ get_or ls' place d → new ≡ noted old number
    → Notes (λ m. bytes_eq m name) number ws ls ws' (set ls' place new)
notes-one name number place ws ls ws' ls' old new d h is does = record {
  even = h.even ∙ sym (length-set ls' place new);
  owners = λ m. ap (λ k. owned ws' (set ls' k new) m) h.first ∙ owned-set ws' ls' name m new h.even h.there ∙ by m (bytes_eq m name) refl;
}
  where
    at : new ≡ noted (owned ws ls name) number
    at = does ∙ ap (λ l. noted l number) (is ∙ ap (λ k. get_or ls' k d) h.first ∙ owned-at ws' ls' name d h.even h.there ∙ h.same name)

    by : (m : List ℕ) (b : Bool) → bytes_eq m name ≡ b → cond b new (owned ws' ls' m) ≡ if b then noted (owned ws ls m) number else owned ws ls m
    by m true e = at ∙ ap (λ v. noted (owned ws ls v) number) (sym (same_bytes m name e))
    by m false e = h.same m

last-push : (xs : List TypeId) (x : TypeId) → slice_get (xs ++ x ∷ []) (length xs) ≡ Some x
last-push [] x = refl
last-push (y ∷ ys) x = last-push ys x

same_number : (n : ℕ) → nat_eq n n ≡ true
same_number n = grind (arith, nat_tests)

is_last-push : (xs : List TypeId) (n : ℕ) → is_last (xs ++ type_id.Enum n ∷ []) n ≡ true
is_last-push xs n =
    let e : length (xs ++ type_id.Enum n ∷ []) - 1 ≡ length xs = omega (arith, length-append xs (type_id.Enum n ∷ [])) in
    ap (λ k. option_map_or (is_enum n) (slice_get (xs ++ type_id.Enum n ∷ []) k) false) e ∙ ap (λ o. option_map_or (is_enum n) o false) (last-push xs (type_id.Enum n)) ∙ same_number n

-- a second time changes nothing
noted-again : (xs : List TypeId) (n : ℕ) → noted (noted xs n) n ≡ noted xs n
noted-again xs n = by (is_last xs n) refl
  where
    by : (b : Bool) → is_last xs n ≡ b → noted (noted xs n) n ≡ noted xs n
    by true e = ap (λ b. noted (if b then xs else xs ++ type_id.Enum n ∷ []) n) e ∙ ap (λ b. if b then xs else xs ++ type_id.Enum n ∷ []) e ∙ sym (ap (λ b. if b then xs else xs ++ type_id.Enum n ∷ []) e)
    by false e =
        ap (λ b. noted (if b then xs else xs ++ type_id.Enum n ∷ []) n) e
        ∙ ap (λ b. if b then xs ++ type_id.Enum n ∷ [] else (xs ++ type_id.Enum n ∷ []) ++ type_id.Enum n ∷ []) (is_last-push xs n)
        ∙ sym (ap (λ b. if b then xs else xs ++ type_id.Enum n ∷ []) e)

-- one more value of an enumeration
pub notes-more : (values : List (List ℕ)) (j : ℕ) (value name : List ℕ) (number : ℕ) (ws : List (List ℕ)) (ls : List (List TypeId)) (ws' : List (List ℕ)) (ls' : List (List TypeId)) (ws'' : List (List ℕ)) (ls'' : List (List TypeId))
    → j < length values → value ≡ get_or values j value → name ≡ value
    → Notes (λ m. list_any (bytes_eq m) (take j values)) number ws ls ws' ls' → Notes (λ m. bytes_eq m name) number ws' ls' ws'' ls''
    → Notes (λ m. list_any (bytes_eq m) (take (j + 1) values)) number ws ls ws'' ls''
notes-more values j value name number ws ls ws' ls' ws'' ls'' lt is named h g = record {
  even = g.even;
  owners = λ m.
      g.owners m
      ∙ (λ i. if bytes_eq m (named i) then noted (h.owners m i) number else h.owners m i)
      ∙ by (list_any (bytes_eq m) (take j values)) (bytes_eq m value) (owned ws ls m)
      ∙ sym (ap (λ b. if b then noted (owned ws ls m) number else owned ws ls m) (list_any_more (bytes_eq m) values j value lt ∙ ap (λ v. list_any (bytes_eq m) (take j values) || bytes_eq m v) (sym is)));
}
  where
    by : (a b : Bool) (o : List TypeId) → (if b then noted (if a then noted o number else o) number else (if a then noted o number else o)) ≡ if a || b then noted o number else o
    by true true o = noted-again o number
    by true false o = refl
    by false true o = refl
    by false false o = refl

-- ---- the enumerations in a row

less : (n k : ℕ) → n < k → nat_eq n k ≡ false
less n k h = grind (arith, nat_tests)

abbrev enums : (name : List ℕ) → ℕ → List Made → List TypeId
enums name n xs = map (λ (p : ℕ × Made). type_id.Enum p.0) (filter (λ (p : ℕ × Made). has_value name p.1) (enumerate_from n xs))

earlier : (name : List ℕ) (k n : ℕ) (xs : List Made) → n + length xs ≤ k → list_any (is_enum k) (enums name n xs) ≡ false
earlier name k n [] h = refl
earlier name k n (x ∷ xs) h = by (has_value name x) (earlier name k (n + 1) xs (omega arith))
  where
    by : (b : Bool) → list_any (is_enum k) (enums name (n + 1) xs) ≡ false
        → list_any (is_enum k) (map (λ (p : ℕ × Made). type_id.Enum p.0) (cond b ((n, x) ∷ filter (λ (p : ℕ × Made). has_value name p.1) (enumerate_from (n + 1) xs)) (filter (λ (p : ℕ × Made). has_value name p.1) (enumerate_from (n + 1) xs)))) ≡ false
    by true rest = λ i. less n k (omega arith) i || rest i
    by false rest = rest

none-at : (p : TypeId → Bool) (xs : List TypeId) (k : ℕ) → list_any p xs ≡ false → option_map_or p (slice_get xs k) false ≡ false
none-at p [] k h = refl
none-at p (x ∷ xs) zero h = first (p x) h
  where
    first : (b : Bool) → (b || list_any p xs) ≡ false → b ≡ false
    first true e = cc
    first false e = refl
none-at p (x ∷ xs) (suc k) h = none-at p xs k (rest (p x) h)
  where
    rest : (b : Bool) → (b || list_any p xs) ≡ false → list_any p xs ≡ false
    rest true e = cc
    rest false e = e

pub noted-next : (all : List Made) (k : ℕ) (name : List ℕ) → k ≤ length all → noted (owners_in (take k all) name) k ≡ owners_in (take k all) name ++ type_id.Enum k ∷ []
noted-next all k name le =
    let xs = owners_in (take k all) name in
    let n : 0 + length (take k all) ≤ k = omega (arith, length-take-le k all le) in
    ap (λ b. if b then xs else xs ++ type_id.Enum k ∷ []) (none-at (is_enum k) xs (length xs - 1) (earlier name k 0 (take k all) n))

pub made-more : (all : List Made) (k : ℕ) (m : Made) (old new : List (List ℕ)) (os ns : List (List TypeId)) → k < length all → m ≡ get_or all k m
    → ((name : List ℕ) → owned old os name ≡ owners_in (take k all) name) → Notes (λ name. has_value name m) k old os new ns
    → (name : List ℕ) → owned new ns name ≡ owners_in (take (k + 1) all) name
made-more all k m old new os ns lt is before h name =
    h.owners name
    ∙ (λ i. if has_value name m then noted (before name i) k else before name i)
    ∙ by (has_value name m)
    ∙ sym (owners-more all k m lt is name)
  where
    by : (b : Bool) → (if b then noted (owners_in (take k all) name) k else owners_in (take k all) name) ≡ owners_in (take k all) name ++ cond b (type_id.Enum k ∷ []) []
    by true = noted-next all k name (omega arith)
    by false = sym (append-nil (owners_in (take k all) name))
