-- A choice by two tokens, of which the second opens a node and the first alone is a phrase of the other piece.
use Rattle.std.proofs.Common.{◌≡◌, ℕ, ◌≤◌, true, false, ◌&&◌, if◌then◌else◌, List, [], ◌∷◌, ◌++◌, Result, Ok, Err, refl, sym, ◌∙◌, ap, subst, inl, inr}
use Rattle.phrase.specs.declared.Fault.{Fault}
use Rattle.phrase.specs.declared.Fault.TheVariants.{Wrong, Deep}
use Rattle.phrase.specs.Piece.{Sight, has, heads, after, Piece, tok, ◌>>=◌, two_heads, choose_two, Kept, Sound, Past, past, stuck, Meets, goes, Begins, Near, Law}
use Rattle.phrase.proofs.Basics.{has_left, has_right, near_same, longer, not_both, by_test, sound_map, meets_more, heads_same, ends_of}
use Rattle.phrase.proofs.Sets.{subset, within, test_and}
use Rattle.phrase.proofs.Rules.{Laws, Avoids}

module _ {T S : Type 0} {sort : Sight T S} where
  module _ {A : Type 0} {d : ℕ} {ks js cx fy cy : List S} {node : ℕ → T → Piece sort A} {y : ℕ → Piece sort A}
      (ln : (t : T) → Law d false false js cx (λ e. node e t)) (ly : Law d false true fy cy y)
      (alone : (t : T) → has sort.rank (sort.of t) ks ≡ true → (a : A) × (y d).lang (t ∷ []) a)
      (apart : Avoids ks js y) (inside : (c : S) → has sort.rank c ks ≡ true → has sort.rank c fy ≡ true) where
    abbrev two : ℕ → Piece sort A
    two e = choose_two ks js (tok ks >>= node e) (y e)

    abbrev cont : List S
    cont = cx ++ (cy ++ js)

    -- ---- which of the two is read

    at_node : (t : T) (s : List T) → has sort.rank (sort.of t) ks ≡ true → heads sort js s ≡ true → (two d).run (t ∷ s) ≡ (node d t).run s
    at_node t s i j =
        ap (λ b. if b && heads sort js s then (tok ks >>= node d).run (t ∷ s) else (y d).run (t ∷ s)) i
        ∙ ap (λ b. if b then (tok ks >>= node d).run (t ∷ s) else (y d).run (t ∷ s)) j
        ∙ ap (λ b. after (if b then (Ok t, s) else (Err Wrong, t ∷ s)) (λ t. (node d t).run)) i

    at_other : (s : List T) → two_heads sort ks js s ≡ false → (two d).run s ≡ (y d).run s
    at_other s h = ap (λ b. if b then (tok ks >>= node d).run s else (y d).run s) h

    -- a phrase of the node behind its token
    behind : (t : T) → has sort.rank (sort.of t) ks ≡ true → (e : ℕ) (w : List T) (a : A) → (node e t).lang w a → (two e).lang (t ∷ w) a
    behind t k e w a l = inl (t, t ∷ [], w, refl, (refl, k), l)

    two_begins : (e : ℕ) (w : List T) (a : A) → (two e).lang w a → Begins sort false fy w
    two_begins e w a (inl (t, u, v, i, (j, k), l)) = subst (Begins sort false fy) (sym (i ∙ ap (λ z. z ++ v) j)) (inside (sort.of t) k)
    two_begins e w a (inr k) = ly.begins e w a k

    two_mono : (e g : ℕ) (w : List T) (a : A) → e ≤ g → (two e).lang w a → (two g).lang w a
    two_mono e g w a le (inl (t, u, v, i, j, l)) = inl (t, u, v, i, j, (ln t).mono e g v a le l)
    two_mono e g w a le (inr k) = inr (ly.mono e g w a le k)

    -- ---- what is read is of a phrase

    kept_node : (t : T) → has sort.rank (sort.of t) ks ≡ true → (w : List T) → Kept false (λ e. node e t) d w → Kept true two d (t ∷ w)
    kept_node t k w (inl (v, a, l)) = inl (v, a, behind t k d (w ++ v) a l)
    kept_node t k w (inr h) = let (a, l) = alone t k in inl ([], a, inr (subst (λ z. (y d).lang (t ∷ (z ++ [])) a) (sym h.0) l))

    sound_node : (t : T) → has sort.rank (sort.of t) ks ≡ true → (s : List T) → heads sort js s ≡ true → (o : Result A Fault) (r : List T) → Sound false (λ e. node e t) d s o r → Sound true two d (t ∷ s) o r
    sound_node t k s j (Ok a) r (w, i, l) = (t ∷ w, ap (λ z. t ∷ z) i, behind t k d w a l)
    sound_node t k s j (Err Wrong) r (w, i, z) = (t ∷ w, ap (λ z. t ∷ z) i, kept_node t k w z)
    sound_node t k s j (Err Deep) r (w, u, q, h, i, (e, v, a, l), z, o) =
        (t ∷ w, u, q, h, ap (λ z. t ∷ z) i, (e, v, a, behind t k e ((w ++ u ∷ []) ++ v) a l), kept_node t k w z, inl (subst (λ z. two_heads sort ks js (t ∷ z) ≡ true) i (ap (λ b. b && heads sort js s) k ∙ j), inr (t, t ∷ [], w, refl, (refl, k), o)))

    kept_other : (w : List T) → Kept true y d w → Kept true two d w
    kept_other w (inl (v, a, k)) = inl (v, a, inr k)
    kept_other w (inr h) = not_both refl h.1

    sound_other : (s : List T) → two_heads sort ks js s ≡ false → Sound true two d s ((two d).run s).0 ((two d).run s).1
    sound_other s h =
        subst (λ o. Sound true two d s o.0 o.1) (sym (at_other s h)) (sound_map true true y two d (λ e w a k. inr k) kept_other s (λ w r i k. inr (ap (two_heads sort ks js) (sym i) ∙ h, k)) ((y d).run s).0 ((y d).run s).1 (ly.sound s))

    two_sound : (s : List T) → Sound true two d s ((two d).run s).0 ((two d).run s).1
    two_sound [] = sound_other [] refl
    two_sound (t ∷ s) = by_test (λ b. two_heads sort ks js (t ∷ s) ≡ b → Sound true two d (t ∷ s) ((two d).run (t ∷ s)).0 ((two d).run (t ∷ s)).1) (two_heads sort ks js (t ∷ s))
        (λ h _. let (i, j) = test_and (has sort.rank (sort.of t) ks) (heads sort js s) h in
        subst (λ o. Sound true two d (t ∷ s) o.0 o.1) (sym (at_node t s i j)) (sound_node t i s j ((node d t).run s).0 ((node d t).run s).1 ((ln t).sound s)))
        (λ h _. sound_other (t ∷ s) h) refl

    -- ---- a phrase is read

    meets_node : (t : T) → has sort.rank (sort.of t) ks ≡ true → (e : ℕ) (v : List T) (a : A) (r : List T) → (node e t).lang v a → Begins sort false js v → Meets sort d e cont ((two d).run (t ∷ (v ++ r))) a r
    meets_node t k e [] a r l b = not_both refl (sym b)
    meets_node t k e (u ∷ v) a r l b =
        subst (λ o. Meets sort d e cont o a r) (sym (at_node t (u ∷ (v ++ r)) k b)) (meets_more d e cx cont (λ n h. has_left sort.rank n cx (cy ++ js) h) ((node d t).run (u ∷ (v ++ r))) a r ((ln t).meets e (u ∷ v) a r l))

    other_read : (e : ℕ) (w : List T) (a : A) (r : List T) → (y e).lang w a → two_heads sort ks js (w ++ r) ≡ false → Meets sort d e cont ((two d).run (w ++ r)) a r
    other_read e w a r k h =
        subst (λ o. Meets sort d e cont o a r) (sym (at_other (w ++ r) h)) (meets_more d e cy cont (λ n h. has_right sort.rank n cx (cy ++ js) (has_left sort.rank n cy js h)) ((y d).run (w ++ r)) a r (ly.meets e w a r k))

    meets_other : (e : ℕ) (w : List T) (a : A) (r : List T) → (y e).lang w a → Begins sort false fy w → two_heads sort ks js w ≡ false → Meets sort d e cont ((two d).run (w ++ r)) a r
    meets_other e [] a r k b n = not_both refl (sym b)
    meets_other e (t ∷ u ∷ w) a r k b n = other_read e (t ∷ u ∷ w) a r k n
    meets_other e (t ∷ []) a [] k b n = other_read e (t ∷ []) a [] k n
    meets_other e (t ∷ []) a (u ∷ r) k b n = by_test (λ z. two_heads sort ks js (t ∷ u ∷ r) ≡ z → Meets sort d e cont ((two d).run (t ∷ u ∷ r)) a (u ∷ r)) (two_heads sort ks js (t ∷ u ∷ r))
        (λ h _. let (i, j) = test_and (has sort.rank (sort.of t) ks) (has sort.rank (sort.of u) js) h in
        goes u r refl (has_right sort.rank (sort.of u) cx (cy ++ js) (has_right sort.rank (sort.of u) cy js j)) (subst (λ o. Past o u r) (sym (at_node t (u ∷ r) i j)) ((ln t).takes u r j)))
        (λ h _. other_read e (t ∷ []) a (u ∷ r) k h) refl

    two_meets : (e : ℕ) (w : List T) (a : A) (r : List T) → (two e).lang w a → Meets sort d e cont ((two d).run (w ++ r)) a r
    two_meets e w a r (inl (t, u, v, i, (j, k), l)) = subst (λ z. Meets sort d e cont ((two d).run (z ++ r)) a r) (sym (i ∙ ap (λ z. z ++ v) j)) (meets_node t k e v a r l ((ln t).begins e v a l))
    two_meets e w a r (inr k) = meets_other e w a r k (ly.begins e w a k) (apart.never e w a k)

    -- ---- where the descent goes past a token, and where it stops

    two_takes : (t : T) (s : List T) → has sort.rank (sort.of t) fy ≡ true → Past ((two d).run (t ∷ s)) t s
    two_takes t s k = by_test (λ b. two_heads sort ks js (t ∷ s) ≡ b → Past ((two d).run (t ∷ s)) t s) (two_heads sort ks js (t ∷ s))
        (λ h _. let (i, j) = test_and (has sort.rank (sort.of t) ks) (heads sort js s) h in
        let (w, e) = ends_of false (λ e. node e t) d s ((node d t).run s).0 ((node d t).run s).1 ((ln t).sound s) in
        subst (λ o. Past o t s) (sym (at_node t s i j)) (past w e))
        (λ h _. subst (λ o. Past o t s) (sym (at_other (t ∷ s) h)) (ly.takes t s k)) refl

    two_stuck : (w r : List T) → (two d).over w r → (two d).run (w ++ r) ≡ (Err Deep, r)
    two_stuck w r (inl (h, inl k)) = absurd k
    two_stuck w r (inl (h, inr (t, u, v, i, (j, k), l))) =
        let whole : w ++ r ≡ t ∷ (v ++ r) = ap (λ z. z ++ r) (i ∙ ap (λ z. z ++ v) j) in
        let (m, n) = test_and (has sort.rank (sort.of t) ks) (heads sort js (v ++ r)) (subst (λ z. two_heads sort ks js z ≡ true) whole h) in
        ap (two d).run whole ∙ at_node t (v ++ r) k n ∙ (ln t).stuck_at v r l
    two_stuck w r (inr (h, k)) = at_other (w ++ r) h ∙ ly.stuck_at w r k

    -- ---- the outcome hangs on what was read and the next token alone

    abbrev Again : List T → List T → Result A Fault → Type 0
    Again w q o = (two d).run (w ++ q) ≡ (o, q)

    local_past : (t : T) (w r q : List T) (o : Result A Fault) → (two d).run (t ∷ (w ++ r)) ≡ (o, r) → Near o r q → Again (t ∷ w) q o
    local_past t w r q o h n =
        let same : heads sort js (w ++ r) ≡ heads sort js (w ++ q) = heads_same sort js w r q (near_same o r q n) in
        let both : two_heads sort ks js (t ∷ (w ++ r)) ≡ two_heads sort ks js (t ∷ (w ++ q)) = ap (λ z. has sort.rank (sort.of t) ks && z) same in
        by_test (λ b. two_heads sort ks js (t ∷ (w ++ r)) ≡ b → Again (t ∷ w) q o) (two_heads sort ks js (t ∷ (w ++ r)))
        (λ k _. let (i, j) = test_and (has sort.rank (sort.of t) ks) (heads sort js (w ++ r)) k in
        at_node t (w ++ q) i (sym same ∙ j) ∙ (ln t).local w r q o (sym (at_node t (w ++ r) i j) ∙ h) n)
        (λ k _. at_other (t ∷ (w ++ q)) (sym both ∙ k) ∙ ly.local (t ∷ w) r q o (sym (at_other (t ∷ (w ++ r)) k) ∙ h) n) refl

    -- nothing was read at a token that begins a phrase, so that a node would open too deep
    local_stuck : (t : T) (r q : List T) (o : Result A Fault) → has sort.rank (sort.of t) ks ≡ true → (two d).run (t ∷ r) ≡ (o, t ∷ r) → Near o (t ∷ r) q → Again [] q o
    local_stuck t r q o k h n = by_past (two_takes t r (inside (sort.of t) k))
      where
        by_past : Past ((two d).run (t ∷ r)) t r → Again [] q o
        by_past (past u i) = absurd (longer t r u (i ∙ ap (λ z. u ++ z.1) h))
        by_past (stuck i) =
            let e : o ≡ Err Deep = sym (ap (λ z. z.0) h) ∙ i in
            let same : t ∷ r ≡ q = subst (λ z. Near z (t ∷ r) q) e n in
            subst (λ z. (two d).run z ≡ (o, z)) same h

    other_apart : (t : T) (s : List T) → has sort.rank (sort.of t) ks ≡ false → two_heads sort ks js (t ∷ s) ≡ false
    other_apart t s k = ap (λ b. b && heads sort js s) k

    two_local : (w r q : List T) (o : Result A Fault) → (two d).run (w ++ r) ≡ (o, r) → Near o r q → Again w q o
    two_local (t ∷ w) r q o h n = local_past t w r q o h n
    two_local [] [] [] o h n = h
    two_local [] [] (u ∷ q) o h n = absurd (near_same o [] (u ∷ q) n)
    two_local [] (t ∷ r) [] o h n = absurd (near_same o (t ∷ r) [] n)
    two_local [] (t ∷ r) (u ∷ q) o h n = by_test (λ b. has sort.rank (sort.of t) ks ≡ b → Again [] (u ∷ q) o) (has sort.rank (sort.of t) ks)
        (λ k _. local_stuck t r (u ∷ q) o k h n)
        (λ k _. let next : has sort.rank (sort.of u) ks ≡ false = subst (λ z. has sort.rank (sort.of z) ks ≡ false) (near_same o (t ∷ r) (u ∷ q) n) k in
        at_other (u ∷ q) (other_apart u q next) ∙ ly.local [] (t ∷ r) (u ∷ q) o (sym (at_other (t ∷ r) (other_apart t r k)) ∙ h) n) refl

    two_law : Law d false true fy cont two
    two_law = record {
      begins = two_begins;
      mono = two_mono;
      some = let (e, w, a, k) = ly.some in (e, w, a, inr k);
      sound = two_sound;
      meets = two_meets;
      local = two_local;
      stuck_at = two_stuck;
      takes = two_takes;
      empty = λ n. not_both refl (sym n);
      here = λ o. let (v, a, k) = ly.here o in (v, a, inr k);
    }

  -- A token of these kinds and then a node, or what no two such tokens begin.
  pub choose_nodeL : {A : Type 0} {d : ℕ} {ks js cx fy cy : List S} {node : ℕ → T → Piece sort A} {y : ℕ → Piece sort A}
      (ln : (t : T) → Laws true d false false js cx (λ e. node e t)) (ly : Laws true d false true fy cy y)
      → ((t : T) → has sort.rank (sort.of t) ks ≡ true → (a : A) × (y d).lang (t ∷ []) a) → Avoids ks js y → subset sort.rank ks fy ≡ true
      → Laws true d false true fy (cx ++ (cy ++ js)) (λ e. choose_two ks js (tok ks >>= node e) (y e))
  choose_nodeL {A} {d} {ks} {js} {cx} {fy} {cy} {node} {y} ln ly alone apart i =
      let l = two_law (λ t. (ln t).law refl) (ly.law refl) alone apart (within sort.rank ks fy i) in
      record { half = record { mono = l.mono; some = l.some }; law = λ _. l }
