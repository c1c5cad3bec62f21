-- Lists of numbered rows that grow.
use Rattle.std.proofs.Common.{◌≡◌, refl, sym, ap, subst, ◌∙◌, ℕ, suc, ◌+◌, ◌≤◌, ◌<◌, List, [], ◌∷◌, ◌++◌, length, take, map, get_or, append-nil, arith}
use Rattle.std.specs.List.{flat_map}
use Rattle.std.proofs.lemmas.List.{take_more, map-append, length-map, length-take-le}
use Rattle.std.proofs.lemmas.Grind.{flat_map-append}
use Rattle.std.proofs.lemmas.List.Folds.{length-flat_map-take}
use Rattle.plc_tree.specs.Rows.{Row}
use Rattle.c_tree.specs.declared.tree.CItem.{CItem}
use Rattle.emit_pou.specs.Emitted.{debug_row, debug_rows_from}

pub numbered-append : (k : ℕ) (rs qs : List Row) → debug_rows_from k (rs ++ qs) ≡ debug_rows_from k rs ++ debug_rows_from (k + length rs) qs
numbered-append k [] qs = ap (λ n. debug_rows_from n qs) (omega arith)
numbered-append k (r ∷ rs) qs = ap (λ is. debug_row k r ∷ is) (numbered-append (k + 1) rs qs ∙ ap (λ n. debug_rows_from (k + 1) rs ++ debug_rows_from n qs) (omega arith))

pub numbered-length : (k : ℕ) (rs : List Row) → length (debug_rows_from k rs) ≡ length rs
numbered-length k [] = refl
numbered-length k (r ∷ rs) = ap suc (numbered-length (k + 1) rs)

module _ {X : Type 0} (f : X → List Row) (xs : List X) (k : ℕ) (x : X) (lt : k < length xs) (is : x ≡ get_or xs k x) where
  pub one_more : flat_map f (take (k + 1) xs) ≡ flat_map f (take k xs) ++ f x
  one_more = ap (flat_map f) (take_more xs k x lt) ∙ flat_map-append f (take k xs) (get_or xs k x ∷ []) ∙ ap (λ y. flat_map f (take k xs) ++ (f y ++ [])) (sym is) ∙ ap (λ ys. flat_map f (take k xs) ++ ys) (append-nil (f x))

  pub numbered_on : (n : ℕ) → debug_rows_from n (flat_map f (take (k + 1) xs)) ≡ debug_rows_from n (flat_map f (take k xs)) ++ debug_rows_from (n + length (flat_map f (take k xs))) (f x)
  numbered_on n = ap (debug_rows_from n) one_more ∙ numbered-append n (flat_map f (take k xs)) (f x)

  -- the rows so far leave room for one more
  pub room : (n : ℕ) (items : List CItem) → items ≡ debug_rows_from n (flat_map f (take k xs)) → length items + length (f x) ≤ length (flat_map f xs)
  room n items e =
      let within : length (flat_map f (take k xs)) + length (f x) ≤ length (flat_map f xs) = let P : X → Type 0 = λ y. length (flat_map f (take k xs)) + length (f y) ≤ length (flat_map f xs) in subst P (sym is) (length-flat_map-take f xs k x lt) in
      omega (arith, within, ap length e ∙ numbered-length n (flat_map f (take k xs)))

  pub grown : (n next : ℕ) (items more now : List CItem) → items ≡ debug_rows_from n (flat_map f (take k xs)) → next ≡ n + length items → more ≡ debug_rows_from next (f x) → now ≡ items ++ more
      → now ≡ debug_rows_from n (flat_map f (take (k + 1) xs))
  grown n next items more now e g m h =
      let len : length items ≡ length (flat_map f (take k xs)) = ap length e ∙ numbered-length n (flat_map f (take k xs)) in
      h ∙ ap (λ ys. items ++ ys) (m ∙ ap (λ j. debug_rows_from j (f x)) (g ∙ ap (λ j. n + j) len)) ∙ ap (λ ys. ys ++ debug_rows_from (n + length (flat_map f (take k xs))) (f x)) e ∙ sym (numbered_on n)

-- one more row of a list of variables
pub next_row : {X : Type 0} (f : X → Row) (xs : List X) (n k number : ℕ) (x : X) (items now : List CItem) (item : CItem) → k < length xs → x ≡ get_or xs k x
    → items ≡ debug_rows_from n (map f (take k xs)) → number ≡ n + k → item ≡ debug_row number (f x) → now ≡ items ++ item ∷ []
    → now ≡ debug_rows_from n (map f (take (k + 1) xs))
next_row f xs n k number x items now item lt is e g m h =
    let front : map f (take (k + 1) xs) ≡ map f (take k xs) ++ f x ∷ [] = ap (map f) (take_more xs k x lt) ∙ map-append f (take k xs) (get_or xs k x ∷ []) ∙ ap (λ y. map f (take k xs) ++ f y ∷ []) (sym is) in
    let len : length (map f (take k xs)) ≡ k = length-map (take k xs) f ∙ length-take-le k xs (omega arith) in
    h ∙ ap (λ i. items ++ i ∷ []) (m ∙ ap (λ j. debug_row j (f x)) (g ∙ ap (λ j. n + j) (sym len))) ∙ ap (λ ys. ys ++ debug_row (n + length (map f (take k xs))) (f x) ∷ []) e
    ∙ sym (ap (debug_rows_from n) front ∙ numbered-append n (map f (take k xs)) (f x ∷ []))
