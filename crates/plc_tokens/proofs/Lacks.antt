-- Grammars of which no phrase has a token that ends a list or is left out.
use Rattle.std.proofs.Common.{◌≡◌, ℕ, zero, suc, Bool, true, false, not, ◌&&◌, eqb, List, [], ◌∷◌, ◌++◌, sym, ◌∙◌, ap, subst, inl, inr, ⊎_elim}
use Rattle.std.proofs.lemmas.Bool.{or_cases, and_parts, not-true}
use Rattle.plc_tokens.specs.declared.sort.Seen.{Seen}
use Rattle.plc_tokens.specs.declared.token.Token.{Token}
use Rattle.phrase.specs.Piece.{Sight, has, heads, two_heads, three_heads, Piece, pure, tok, ◌>>=◌, either, choose, choose_two, choose_three, Turns, many, opens, none, also, seen, via}
use Rattle.plc_tokens.specs.Sorts.{rank, sort_in}
use Rattle.plc_tokens.specs.Tokens.{stops, AllKept}
use Rattle.plc_tokens.proofs.Ranks.{one_rank}

pub kept_both : (u v : List Token) → AllKept u → AllKept v → AllKept (u ++ v)
kept_both [] v h k = k
kept_both (t ∷ u) v h k = (h.0, kept_both u v h.1 k)

-- a token before the last of a list is of its front
pub kept_at : (p : List Token) (t u : Token) (v x : List Token) (e : Token) → p ++ t ∷ u ∷ v ≡ x ++ e ∷ [] → AllKept x → stops t.sort ≡ false
kept_at [] t u v [] e i h = cc
kept_at [] t u v (y ∷ x) e i h = let j : y ≡ t = cc in subst (λ z. stops z.sort ≡ false) j h.0
kept_at (a ∷ p) t u v [] e i h = let j : p ++ t ∷ u ∷ v ≡ [] = cc in absurd (not_nil p j)
  where
    not_nil : (p : List Token) → p ++ t ∷ u ∷ v ≡ [] → ⊥
    not_nil [] k = cc
    not_nil (b ∷ q) k = cc
kept_at (a ∷ p) t u v (y ∷ x) e i h = let j : p ++ t ∷ u ∷ v ≡ x ++ e ∷ [] = cc in kept_at p t u v x e j h.1

-- none of these sorts stops a phrase
abbrev pub goes_on : List Seen → Bool
goes_on [] = true
goes_on (s ∷ ss) = not (stops s.sort) && goes_on ss

pub kept_sort : (c : Seen) (ss : List Seen) → goes_on ss ≡ true → has rank c ss ≡ true → stops c.sort ≡ false
kept_sort c [] h k = absurd (let e : false ≡ true = k in cc)
kept_sort c (x ∷ ss) h k = let both = and_parts (not (stops x.sort)) (goes_on ss) h in ⊎_elim
    (λ e. ap stops (one_rank c x e) ∙ not-true (stops x.sort) both.0)
    (λ r. kept_sort c ss both.1 r)
    (or_cases (eqb (rank c) (rank x)) (has rank c ss) k)

module _ {S : Type 0} {sort : Sight Token S} where
  pub record Lacks {A : Type 0} (p : Piece sort A) : Type 0 where
    pub none : (w : List Token) (a : A) → p.lang w a → AllKept w

  pub lacks_pure : {A : Type 0} (a : A) → Lacks (pure {sort = sort} a)
  lacks_pure a = record { none = λ w b k. subst AllKept (sym k.0) tt }

  pub lacks_bind : {A B : Type 0} {x : Piece sort A} {y : A → Piece sort B} → Lacks x → ((a : A) → Lacks (y a)) → Lacks (x >>= y)
  lacks_bind hx hy = record { none = λ w b (a, u, v, i, k, l). subst AllKept (sym i) (kept_both u v (hx.none u a k) ((hy a).none v b l)) }

  pub lacks_many : {A : Type 0} {step : A → Piece sort A} (js : List S) (a : A) → ((a : A) → Lacks (step a)) → Lacks (many js step a)
  lacks_many {A} {step} js a h = record { none = λ w c k. of_turns k.0 a c w k.1 }
    where
      of_turns : (n : ℕ) (a c : A) (w : List Token) → Turns step n a w c → AllKept w
      of_turns zero a c w k = subst AllKept (sym k.0) tt
      of_turns (suc n) a c w (b, u, v, i, k, l) = subst AllKept (sym i) (kept_both u v ((h a).none u b k) (of_turns n b c v l))

  lacks_either : {A : Type 0} {x y : Piece sort A} (test : List Token → Bool) → Lacks x → Lacks y → Lacks (either test x y)
  lacks_either {A} {x} {y} test hx hy = record { none = by_case }
    where
      by_case : (w : List Token) (a : A) → (either test x y).lang w a → AllKept w
      by_case w a (inl k) = hx.none w a k
      by_case w a (inr k) = hy.none w a k

  pub lacks_choose : {A : Type 0} {x y : Piece sort A} (ks : List S) → Lacks x → Lacks y → Lacks (choose ks x y)
  lacks_choose ks hx hy = lacks_either (heads sort ks) hx hy

  pub lacks_choose_two : {A : Type 0} {x y : Piece sort A} (ks js : List S) → Lacks x → Lacks y → Lacks (choose_two ks js x y)
  lacks_choose_two ks js hx hy = lacks_either (two_heads sort ks js) hx hy

  pub lacks_choose_three : {A : Type 0} {x y : Piece sort A} (ks js ls : List S) → Lacks x → Lacks y → Lacks (choose_three ks js ls x y)
  lacks_choose_three ks js ls hx hy = lacks_either (three_heads sort ks js ls) hx hy

  pub lacks_none : (A : Type 0) → Lacks {A = A} (none {sort = sort})
  lacks_none A = record { none = λ w a k. absurd k }

  pub lacks_also : {A : Type 0} {x y : Piece sort A} → Lacks x → Lacks y → Lacks (also x y)
  lacks_also {A} {x} {y} hx hy = record { none = by_case }
    where
      by_case : (w : List Token) (a : A) → (also x y).lang w a → AllKept w
      by_case w a (inl k) = hx.none w a k
      by_case w a (inr k) = hy.none w a k

  pub lacks_via : {A : Type 0} {x : Piece sort A} (y : Piece sort A) → Lacks x → Lacks (via x y)
  lacks_via y hx = record { none = hx.none }

pub lacks_seen : {S : Type 0} {sort : Sight Token S} {A : Type 0} {x : Piece sort A} (other : Sight Token S) → Lacks x → Lacks (seen {other = other} x)
lacks_seen other hx = record { none = hx.none }

module _ (line : Bool) where
  pub lacks_tok : (js : List Seen) → goes_on js ≡ true → Lacks (tok {sort = sort_in line} js)
  lacks_tok js h = record { none = λ w t k. subst AllKept (sym k.0) (kept_sort ((sort_in line).of t) js h k.1, tt) }

  pub lacks_opens : {A : Type 0} {n h : ℕ} {rest : Token → Piece (sort_in line) A} (js : List Seen) → goes_on js ≡ true → ((t : Token) → Lacks (rest t)) → Lacks (opens n h js rest)
  lacks_opens js i hr = record { none = λ w a (lt, t, v, j, k, l). subst AllKept (sym j) (kept_sort ((sort_in line).of t) js i k, (hr t).none v a l) }
