-- Grammars of which no phrase has a token that ends a list or is left out, but for the words behind a section's first.
use Rattle.std.proofs.Common.{◌⊎◌, ◌≡◌, ℕ, zero, suc, Bool, true, false, ◌&&◌, eqb, List, [], ◌∷◌, ◌++◌, refl, sym, ◌∙◌, ap, subst, inl, inr, ⊎_elim}
use Rattle.std.proofs.lemmas.Bool.{or_cases, and_parts}
use Rattle.plc_tokens.specs.declared.reserved.Reserved.TheVariants as word
use Rattle.plc_tokens.specs.declared.sort.Form.TheVariants as form
use Rattle.plc_tokens.specs.declared.sort.Seen.{Seen}
use Rattle.plc_tokens.specs.declared.sort.Sort.{Sort}
use Rattle.plc_tokens.specs.declared.sort.Sort.TheVariants as sorts
use Rattle.plc_tokens.specs.declared.token.Token.{Token}
use Rattle.phrase.specs.Piece.{has, heads, Piece, pure, tok, ◌>>=◌, either, choose, Turns, many}
use Rattle.plc_tokens.specs.Sorts.{rank, sort}
use Rattle.plc_tokens.specs.Tokens.{stops, is_last, retains, can_retain, AllKept, InPlaceBehind, AllInPlace}
use Rattle.plc_tokens.proofs.Ends.{last_stops}
use Rattle.plc_tokens.proofs.Lacks.{Lacks, goes_on, kept_sort}
use Rattle.plc_tokens.proofs.Ranks.{one_rank}

-- ---- words

-- what is in place behind any token is so behind such a word
behind_any : (can : Bool) (w : List Token) → AllInPlace w → InPlaceBehind can w
behind_any false w h = h
behind_any true [] h = tt
behind_any true (t ∷ w) h = (⊎_elim (λ k. inl k) (λ k. absurd (let e : false ≡ true = k.0 in cc)) h.0, h.1)

pub in_place_both : (can : Bool) (u v : List Token) → InPlaceBehind can u → AllInPlace v → InPlaceBehind can (u ++ v)
in_place_both can [] v h k = behind_any can v k
in_place_both can (t ∷ u) v h k = (h.0, in_place_both (can_retain t.sort) u v h.1 k)

pub kept_in_place : (can : Bool) (w : List Token) → AllKept w → InPlaceBehind can w
kept_in_place can [] h = tt
kept_in_place can (t ∷ w) h = (inl h.0, kept_in_place (can_retain t.sort) w h.1)

-- those words end no list
retained_stays : (s : Sort) → retains s ≡ true → is_last s ≡ false
retained_stays (sorts.Word w) h = refl
retained_stays (sorts.Symbol p) h = refl
retained_stays (sorts.Form f) h = absurd (let e : false ≡ true = h in cc)

last_or_not : (s : Sort) (b : Bool) → is_last s ≡ b → stops s ≡ false → is_last s ≡ false
last_or_not s true i h = absurd (let e : true ≡ false = sym (last_stops s i) ∙ h in cc)
last_or_not s false i h = i

stays : (can : Bool) (s : Sort) → (stops s ≡ false) ⊎ ((can ≡ true) × (retains s ≡ true)) → is_last s ≡ false
stays can s (inl h) = last_or_not s (is_last s) refl h
stays can s (inr h) = retained_stays s h.1

-- a token before the last of a list, whose front is in place, ends none
pub no_end_at : (can : Bool) (p : List Token) (t u : Token) (v x : List Token) (e : Token) → p ++ t ∷ u ∷ v ≡ x ++ e ∷ [] → InPlaceBehind can x → is_last t.sort ≡ false
no_end_at can [] t u v [] e i h = cc
no_end_at can [] t u v (y ∷ x) e i h = let j : y ≡ t = cc in subst (λ z. is_last z.sort ≡ false) j (stays can y.sort h.0)
no_end_at can (a ∷ p) t u v [] e i h = let j : p ++ t ∷ u ∷ v ≡ [] = cc in absurd (not_nil p j)
  where
    not_nil : (p : List Token) → p ++ t ∷ u ∷ v ≡ [] → ⊥
    not_nil [] k = cc
    not_nil (b ∷ q) k = cc
no_end_at can (a ∷ p) t u v (y ∷ x) e i h = let j : p ++ t ∷ u ∷ v ≡ x ++ e ∷ [] = cc in no_end_at (can_retain y.sort) p t u v x e j h.1

-- ---- sorts

-- each of these sorts is that of a section's first word, or of a word that says what variables keep
abbrev pub all_are : (Sort → Bool) → List Seen → Bool
all_are test [] = true
all_are test (s ∷ ss) = test s.sort && all_are test ss

one_of_all : (test : Sort → Bool) (c : Seen) (ss : List Seen) → all_are test ss ≡ true → has rank c ss ≡ true → test c.sort ≡ true
one_of_all test c [] h k = absurd (let e : false ≡ true = k in cc)
one_of_all test c (x ∷ ss) h k = let both = and_parts (test x.sort) (all_are test ss) h in ⊎_elim
    (λ e. ap test (one_rank c x e) ∙ both.0)
    (λ r. one_of_all test c ss both.1 r)
    (or_cases (eqb (rank c) (rank x)) (has rank c ss) k)

-- ---- pieces

pub record PlacedBehind (can : Bool) {A : Type 0} (p : Piece sort A) : Type 0 where
  pub placed : (w : List Token) (a : A) → p.lang w a → InPlaceBehind can w

abbrev pub Placed : {A : Type 0} → Piece sort A → Type 0
Placed p = PlacedBehind false p

pub placed_lacks : {can : Bool} {A : Type 0} {p : Piece sort A} → Lacks p → PlacedBehind can p
placed_lacks {can} h = record { placed = λ w a k. kept_in_place can w (h.none w a k) }

pub placed_anywhere : {can : Bool} {A : Type 0} {p : Piece sort A} → Placed p → PlacedBehind can p
placed_anywhere {can} h = record { placed = λ w a k. behind_any can w (h.placed w a k) }

pub placed_pure : {can : Bool} {A : Type 0} (a : A) → PlacedBehind can (pure a)
placed_pure {can} a = record { placed = λ w b k. subst (InPlaceBehind can) (sym k.0) tt }

pub placed_tok : {can : Bool} (ks : List Seen) → goes_on ks ≡ true → PlacedBehind can (tok ks)
placed_tok {can} ks h = record { placed = λ w t k. subst (InPlaceBehind can) (sym k.0) (inl (kept_sort (sort.of t) ks h k.1), tt) }

-- one of the words that say what variables keep
pub placed_retention : (ks : List Seen) → all_are retains ks ≡ true → PlacedBehind true (tok ks)
placed_retention ks h = record { placed = λ w t k. subst (InPlaceBehind true) (sym k.0) (inr (refl, one_of_all retains (sort.of t) ks h k.1), tt) }

pub placed_bind : {can : Bool} {A B : Type 0} {x : Piece sort A} {y : A → Piece sort B} → PlacedBehind can x → ((a : A) → Placed (y a)) → PlacedBehind can (x >>= y)
placed_bind {can} hx hy = record {
  placed = λ w b (a, u, v, i, k, l). subst (InPlaceBehind can) (sym i) (in_place_both can u v (hx.placed u a k) ((hy a).placed v b l));
}

-- the first word of a section that may have one of those words
pub placed_open : {can : Bool} {B : Type 0} {y : Token → Piece sort B} (ks : List Seen) → goes_on ks ≡ true → all_are can_retain ks ≡ true → ((t : Token) → PlacedBehind true (y t)) → PlacedBehind can (tok ks >>= y)
placed_open {can} {B} {y} ks h j hy = record {
  placed = λ w b (t, u, v, i, k, l). subst (InPlaceBehind can) (sym (i ∙ ap (λ z. z ++ v) k.0))
      (inl (kept_sort (sort.of t) ks h k.1), subst (λ z. InPlaceBehind z v) (sym (one_of_all can_retain (sort.of t) ks j k.1)) ((hy t).placed v b l));
}

placed_either : {can : Bool} {A : Type 0} {x y : Piece sort A} (test : List Token → Bool) → PlacedBehind can x → PlacedBehind can y → PlacedBehind can (either test x y)
placed_either {can} {A} {x} {y} test hx hy = record { placed = by_case }
  where
    by_case : (w : List Token) (a : A) → (either test x y).lang w a → InPlaceBehind can w
    by_case w a (inl k) = hx.placed w a k
    by_case w a (inr k) = hy.placed w a k

pub placed_choose : {can : Bool} {A : Type 0} {x y : Piece sort A} (ks : List Seen) → PlacedBehind can x → PlacedBehind can y → PlacedBehind can (choose ks x y)
placed_choose ks hx hy = placed_either (heads sort ks) hx hy

pub placed_many : {can : Bool} {A : Type 0} {step : A → Piece sort A} (js : List Seen) (a : A) → ((a : A) → Placed (step a)) → PlacedBehind can (many js step a)
placed_many {can} {A} {step} js a h = placed_anywhere (record { placed = λ w c k. of_turns k.0 a c w k.1 })
  where
    of_turns : (n : ℕ) (a c : A) (w : List Token) → Turns step n a w c → AllInPlace w
    of_turns zero a c w k = subst AllInPlace (sym k.0) tt
    of_turns (suc n) a c w (b, u, v, i, k, l) = subst AllInPlace (sym i) (in_place_both false u v ((h a).placed u b k) (of_turns n b c v l))
