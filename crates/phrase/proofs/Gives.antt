-- What the values of a piece are, where each token of a word has a property.
use Rattle.std.proofs.Common.{◌≡◌, ℕ, zero, suc, ◌<◌, Bool, true, List, [], ◌∷◌, ◌++◌, sym, subst, inl, inr}
use Rattle.phrase.specs.Every.{Every}
use Rattle.phrase.specs.Piece.{Sight, has, heads, two_heads, three_heads, Piece, pure, tok, ◌>>=◌, either, choose, choose_two, choose_three, Turns, many, opens, opens_two, none, also, via, seen}

pub every_both : {A : Type 0} (P : A → Type 0) (xs ys : List A) → Every P xs → Every P ys → Every P (xs ++ ys)
every_both P [] ys h k = k
every_both P (x ∷ xs) ys h k = (h.0, every_both P xs ys h.1 k)

pub every_parts : {A : Type 0} (P : A → Type 0) (xs ys : List A) → Every P (xs ++ ys) → Every P xs × Every P ys
every_parts P [] ys h = (tt, h)
every_parts P (x ∷ xs) ys h = let parts = every_parts P xs ys h.1 in ((h.0, parts.0), parts.1)

-- the property of all
abbrev pub Any : {A : Type 0} → A → Type 0
Any a = Unit {0}

pub every_any : {A : Type 0} (xs : List A) → Every Any xs
every_any [] = tt
every_any (x ∷ xs) = (tt, every_any xs)

module _ {T S : Type 0} (P : T → Type 0) where
  pub record Gives {sort : Sight T S} {A : Type 0} (p : Piece sort A) (Q : A → Type 0) : Type 0 where
    pub gives : (w : List T) (a : A) → Every P w → p.lang w a → Q a

  -- a token of these sorts
  pub record IsOne (sort : Sight T S) (ks : List S) (t : T) : Type 0 where
    pub among : has sort.rank (sort.of t) ks ≡ true
    pub holds : P t

module _ {T S : Type 0} {P : T → Type 0} {sort : Sight T S} where
  -- of which nothing is asked
  pub gives_any : {A : Type 0} (p : Piece sort A) → Gives P p Any
  gives_any p = record { gives = λ w a each k. tt }

  pub gives_more : {A : Type 0} {R Q : A → Type 0} {p : Piece sort A} → ((a : A) → R a → Q a) → Gives P p R → Gives P p Q
  gives_more f hp = record { gives = λ w a each k. f a (hp.gives w a each k) }

  pub gives_tok : (ks : List S) → Gives P (tok {sort = sort} ks) (IsOne P sort ks)
  gives_tok ks = record { gives = λ w t each k. record { among = k.1; holds = (subst (Every P) k.0 each).0 } }

  pub gives_bind : {A B : Type 0} {R : A → Type 0} {Q : B → Type 0} {x : Piece sort A} {y : A → Piece sort B} → Gives P x R → ((a : A) → R a → Gives P (y a) Q) → Gives P (x >>= y) Q
  gives_bind hx hy = record {
    gives = λ w b each (a, u, v, i, k, l). let parts = every_parts P u v (subst (Every P) i each) in (hy a (hx.gives u a parts.0 k)).gives v b parts.1 l;
  }

  module _ {A : Type 0} {Q : A → Type 0} where
    pub gives_pure : (a : A) → Q a → Gives P (pure {sort = sort} a) Q
    gives_pure a q = record { gives = λ w b each k. subst Q (sym k.1) q }

    pub gives_many : {step : A → Piece sort A} (js : List S) (a : A) → Q a → ((a : A) → Q a → Gives P (step a) Q) → Gives P (many js step a) Q
    gives_many {step} js a q hs = record { gives = λ w c each k. of_turns k.0 a c w q each k.1 }
      where
        of_turns : (n : ℕ) (a c : A) (w : List T) → Q a → Every P w → Turns step n a w c → Q c
        of_turns zero a c w q each k = subst Q (sym k.1) q
        of_turns (suc n) a c w q each (b, u, v, i, k, l) =
            let parts = every_parts P u v (subst (Every P) i each) in of_turns n b c v ((hs a q).gives u b parts.0 k) parts.1 l

    gives_either : {x y : Piece sort A} (test : List T → Bool) → Gives P x Q → Gives P y Q → Gives P (either test x y) Q
    gives_either {x} {y} test hx hy = record { gives = by_case }
      where
        by_case : (w : List T) (a : A) → Every P w → (either test x y).lang w a → Q a
        by_case w a each (inl k) = hx.gives w a each k
        by_case w a each (inr k) = hy.gives w a each k

    pub gives_choose : {x y : Piece sort A} (ks : List S) → Gives P x Q → Gives P y Q → Gives P (choose ks x y) Q
    gives_choose ks = gives_either (heads sort ks)

    pub gives_choose_two : {x y : Piece sort A} (ks js : List S) → Gives P x Q → Gives P y Q → Gives P (choose_two ks js x y) Q
    gives_choose_two ks js = gives_either (two_heads sort ks js)

    pub gives_choose_three : {x y : Piece sort A} (ks js ls : List S) → Gives P x Q → Gives P y Q → Gives P (choose_three ks js ls x y) Q
    gives_choose_three ks js ls = gives_either (three_heads sort ks js ls)

    pub gives_opens : {d h : ℕ} {rest : T → Piece sort A} (ks : List S) → (h < d → (t : T) → IsOne P sort ks t → Gives P (rest t) Q) → Gives P (opens d h ks rest) Q
    gives_opens ks hr = record {
      gives = λ w a each (lt, t, v, i, k, l). let parts = subst (Every P) i each in (hr lt t (record { among = k; holds = parts.0 })).gives v a parts.1 l;
    }

    pub gives_opens_two : {d h : ℕ} {rest : T → Piece sort A} (ks js : List S) → (h < d → (t : T) → IsOne P sort ks t → Gives P (rest t) Q) → Gives P (opens_two d h ks js rest) Q
    gives_opens_two ks js hr = gives_opens ks (λ lt t ht. gives_bind (gives_tok js) (λ _ _. hr lt t ht))

    pub gives_none : Gives P (none {sort = sort}) Q
    gives_none = record { gives = λ w a each k. absurd k }

    pub gives_also : {x y : Piece sort A} → Gives P x Q → Gives P y Q → Gives P (also x y) Q
    gives_also {x} {y} hx hy = record { gives = by_case }
      where
        by_case : (w : List T) (a : A) → Every P w → (also x y).lang w a → Q a
        by_case w a each (inl k) = hx.gives w a each k
        by_case w a each (inr k) = hy.gives w a each k

    pub gives_via : {x : Piece sort A} (y : Piece sort A) → Gives P x Q → Gives P (via x y) Q
    gives_via y hx = record { gives = hx.gives }

    pub gives_seen : {other : Sight T S} {x : Piece sort A} → Gives P x Q → Gives P (seen {other = other} x) Q
    gives_seen hx = record { gives = hx.gives }
