-- Values whose size is at most the number of tokens that spell them.
use Rattle.std.proofs.Common.{ℕ, zero, suc, ◌+◌, ◌≤◌, Bool, List, length, ap, length-append, arith, inl, inr}
use Rattle.phrase.specs.Piece.{Sight, heads, Piece, pure, tok, ◌>>=◌, either, choose, Turns, many}

module _ {T S : Type 0} {sort : Sight T S} where
  -- beyond a size that was there before
  pub record Counts {A : Type 0} (before : ℕ) (p : Piece sort A) (size : A → ℕ) : Type 0 where
    pub few : (w : List T) (a : A) → p.lang w a → size a ≤ before + length w

  -- of a piece that adds nothing
  pub counts_none : {A : Type 0} {n : ℕ} (p : Piece sort A) → Counts n p (λ _. n)
  counts_none p = record { few = λ w a k. omega arith }

  pub counts_pure : {A : Type 0} {n : ℕ} {size : A → ℕ} (a : A) → size a ≤ n → Counts n (pure a) size
  counts_pure {A} {n} {size} a h = record { few = λ w b k. let e = ap size k.1 in omega (arith, h) }

  pub counts_tok : {n : ℕ} (ks : List S) → Counts n (tok ks) (λ _. n + 1)
  counts_tok ks = record { few = λ w t k. let e = ap length k.0 in omega arith }

  pub counts_bind : {A B : Type 0} {n : ℕ} {size : A → ℕ} {more : B → ℕ} {x : Piece sort A} {y : A → Piece sort B} → Counts n x size → ((a : A) → Counts (size a) (y a) more) → Counts n (x >>= y) more
  counts_bind hx hy = record { few = λ w b (a, u, v, i, k, l). omega (arith, ap length i, length-append u v, hx.few u a k, (hy a).few v b l) }

  pub counts_many : {A : Type 0} {n : ℕ} {size : A → ℕ} {step : A → Piece sort A} (js : List S) (a : A) → size a ≤ n → ((a : A) → Counts (size a) (step a) size) → Counts n (many js step a) size
  counts_many {A} {n} {size} {step} js a h hs = record { few = λ w c k. let l = of_turns k.0 a w c k.1 in omega (arith, h) }
    where
      of_turns : (m : ℕ) (a : A) (w : List T) (c : A) → Turns step m a w c → size c ≤ size a + length w
      of_turns zero a w c k = let e = ap size k.1 in omega arith
      of_turns (suc m) a w c (b, u, v, i, k, l) = omega (arith, ap length i, length-append u v, (hs a).few u b k, of_turns m b v c l)

  counts_either : {A : Type 0} {n : ℕ} {size : A → ℕ} {x y : Piece sort A} (test : List T → Bool) → Counts n x size → Counts n y size → Counts n (either test x y) size
  counts_either {A} {n} {size} {x} {y} test hx hy = record { few = by_case }
    where
      by_case : (w : List T) (a : A) → (either test x y).lang w a → size a ≤ n + length w
      by_case w a (inl k) = hx.few w a k
      by_case w a (inr k) = hy.few w a k

  pub counts_choose : {A : Type 0} {n : ℕ} {size : A → ℕ} {x y : Piece sort A} (ks : List S) → Counts n x size → Counts n y size → Counts n (choose ks x y) size
  counts_choose ks hx hy = counts_either (heads sort ks) hx hy
