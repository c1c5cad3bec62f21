-- Numbers that differ by a multiple of m, and what is left of them in w bits.
use lib.IntN.{*ℤ_comm}
use lib.Pow.{pow_pos}
use Rattle.std.specs.Int.{int_rem_euclid}
use Rattle.std.proofs.lemmas.Bool.Decides.{nat_tests}
use Rattle.std.proofs.Common.{subst, ◌≡◌, refl, sym, ap, ◌∙◌, ℕ, suc, ◌+◌, ◌-◌, ◌*◌, ◌%◌, ◌/◌, ◌^◌, ◌<◌, ◌≤◌, arith}
use Rattle.std.specs.Prelude.{◌↔◌, ◌≤ℤ◌, ℤ, pos, negsuc, ◌+ℤ◌, ◌-ℤ◌, ◌*ℤ◌, Bool, true, false, unsigned_abs, nat_lt, if◌then◌else◌}
use Rattle.std.proofs.Math.Nat.{div-add-mod', mod-lt, mod-eq_of_lt, two-pow-succ, mul-le-mul_left}
use Rattle.std.proofs.lemmas.Int.{ints, int_rem_euclid_is}
use borrow.Author.Differences.{up, down, same_in, same_out, sum_is_lem, neg_is, product_is}
use Rattle.plc_base.specs.Numbers.{low_bits, high_bits, FitsBits, residue, reading, wrap_bits}

-- a and b differ by a multiple of m
pub record Same (m : ℕ) (a b : ℤ) : Type 0 where
  pub j : ℕ
  pub k : ℕ
  pub is : a +ℤ pos (j * m) ≡ b +ℤ pos (k * m)

pub same-refl : (m : ℕ) (a : ℤ) → Same m a a
same-refl m a = record { j = 0; k = 0; is = refl }

pub same-sym : {m : ℕ} {a b : ℤ} → Same m a b → Same m b a
same-sym s = record { j = s.k; k = s.j; is = sym s.is }

pub same-trans : {m : ℕ} {a b c : ℤ} → Same m a b → Same m b c → Same m a c
same-trans {m} {a} {b} {c} s t = record { j = s.j + t.j; k = s.k + t.k; is = omega (arith, same_in, same_out, sum_is_lem, s.is, t.is) }

pub same-add : {m : ℕ} {a b c d : ℤ} → Same m a b → Same m c d → Same m (a +ℤ c) (b +ℤ d)
same-add s t = record { j = s.j + t.j; k = s.k + t.k; is = omega (arith, same_in, same_out, sum_is_lem, s.is, t.is) }

pub same-sub : {m : ℕ} {a b c d : ℤ} → Same m a b → Same m c d → Same m (a -ℤ c) (b -ℤ d)
same-sub s t = record { j = s.j + t.k; k = s.k + t.j; is = omega (arith, same_in, same_out, sum_is_lem, neg_is, s.is, t.is) }

same-mul_left : {m : ℕ} {a b : ℤ} (c : ℤ) → Same m a b → Same m (a *ℤ c) (b *ℤ c)
same-mul_left {m} {a} {b} c s =
    let sum : up a + s.j * m + down b ≡ up b + s.k * m + down a = omega (arith, same_out, sum_is_lem, s.is) in
    let above = ap (λ x. x * up c) sum in
    let below = ap (λ x. x * down c) sum in
    record { j = s.j * up c + s.k * down c; k = s.k * up c + s.j * down c; is = omega (arith, same_in, sum_is_lem, product_is) }

pub same-mul : {m : ℕ} {a b c d : ℤ} → Same m a b → Same m c d → Same m (a *ℤ c) (b *ℤ d)
same-mul {m} {a} {b} {c} {d} s t =
    let first = same-mul_left c s in
    let second : Same m (c *ℤ b) (d *ℤ b) = same-mul_left b t in
    let e : c *ℤ b ≡ b *ℤ c = *ℤ_comm c b in
    let f : d *ℤ b ≡ b *ℤ d = *ℤ_comm d b in
    same-trans first (subst (λ x. Same m x (b *ℤ d)) e (subst (Same m (c *ℤ b)) f second))

-- a multiple of a multiple
pub same-part : {m : ℕ} {a b : ℤ} (n d : ℕ) → m ≡ d * n → Same m a b → Same n a b
same-part {m} {a} {b} n d e s =
    let p : s.j * m ≡ s.j * d * n = ap (λ x. s.j * x) e ∙ omega arith in
    let q : s.k * m ≡ s.k * d * n = ap (λ x. s.k * x) e ∙ omega arith in
    record { j = s.j * d; k = s.k * d; is = ap (λ x. a +ℤ pos x) (sym p) ∙ s.is ∙ ap (λ x. b +ℤ pos x) q }

pub same-residue : (m : ℕ) (z : ℤ) → 0 < m → Same m (pos (residue m z)) z
same-residue m (pos a) h = record { j = a / m; k = 0; is = omega (arith, same_in, same_out, sum_is_lem, div-add-mod' a m) }
same-residue m (negsuc a) h =
    let small = mod-lt a h in
    record { j = 0; k = a / m + 1; is = omega (arith, same_in, same_out, sum_is_lem, div-add-mod' a m) }

pub residue_lt : (m : ℕ) (z : ℤ) → 0 < m → residue m z < m
residue_lt m (pos a) h = mod-lt a h
residue_lt m (negsuc a) h = let small = mod-lt a h in omega arith

residue-is : (m : ℕ) (z : ℤ) → int_rem_euclid z (pos m) ≡ pos (residue m z)
residue-is m (pos a) = refl
residue-is m (negsuc a) = refl

nat_lt_is_true : {a b : ℕ} → a < b → nat_lt a b ≡ true
nat_lt_is_true h = grind (arith, nat_tests)

nat_lt_is_false : {a b : ℕ} → b ≤ a → nat_lt a b ≡ false
nat_lt_is_false h = grind (arith, nat_tests)

two_halves : (w : ℕ) → 0 < w → 2 ^ (w - 1) + 2 ^ (w - 1) ≡ 2 ^ w
two_halves w h = let e : suc (w - 1) ≡ w = omega arith in omega (arith, two-pow-succ (w - 1), ap (λ x. 2 ^ x) e)

-- numbers that differ by a multiple have one residue
pub residue_same : {m : ℕ} {a b : ℤ} → 0 < m → Same m a b → residue m a ≡ residue m b
residue_same {m} {a} {b} h s =
    let t = down a + down b in
    let far : t * 1 ≤ t * m = mul-le-mul_left t h in
    let n = up a + (s.j + t) * m - down a in
    let from : (z : ℤ) (i : ℕ) → z +ℤ pos ((i + t) * m) ≡ pos n → residue m z ≡ n % m = λ z i e. ap unsigned_abs (sym (residue-is m z) ∙ int_rem_euclid_is z (pos m) m (i + t) n h refl e) in
    from a s.j (omega (arith, ints, s.is)) ∙ sym (from b s.k (omega (arith, ints, s.is)))

pub same-reading : (s : Bool) (w n : ℕ) → 0 < w → n < 2 ^ w → Same (2 ^ w) (reading s w n) (pos n)
same-reading false w n p h = same-refl (2 ^ w) (pos n)
same-reading true w n p h =
    let half : 2 ^ (w - 1) + 2 ^ (w - 1) ≡ 2 ^ w = two_halves w p in
    by (nat_lt n (2 ^ (w - 1)))
  where
    by : (t : Bool) → Same (2 ^ w) (if t then pos n else negsuc (2 ^ w - 1 - n)) (pos n)
    by true = same-refl (2 ^ w) (pos n)
    by false = record { j = 1; k = 0; is = omega (arith, ints) }

-- what is left of z differs from z by a multiple
pub same-wrap_bits : (s : Bool) (w : ℕ) (z : ℤ) → 0 < w → Same (2 ^ w) (wrap_bits s w z) z
same-wrap_bits s w z p = same-trans (same-reading s w (residue (2 ^ w) z) p (residue_lt (2 ^ w) z (pow_pos w))) (same-residue (2 ^ w) z (pow_pos w))

pub fits-reading : (s : Bool) (w n : ℕ) → 0 < w → n < 2 ^ w → FitsBits s w (reading s w n)
fits-reading false w n p h = h
fits-reading true w n p h = by (nat_lt n (2 ^ (w - 1))) refl
  where
    by : (t : Bool) → nat_lt n (2 ^ (w - 1)) ≡ t → FitsBits true w (if t then pos n else negsuc (2 ^ w - 1 - n))
    by true e = grind (arith, nat_tests)
    by false e = let half : 2 ^ (w - 1) + 2 ^ (w - 1) ≡ 2 ^ w = two_halves w p in let ge : 2 ^ (w - 1) ≤ n = grind (arith, nat_tests) in omega arith

pub fits-wrap_bits : (s : Bool) (w : ℕ) (z : ℤ) → 0 < w → FitsBits s w (wrap_bits s w z)
fits-wrap_bits s w z p = fits-reading s w (residue (2 ^ w) z) p (residue_lt (2 ^ w) z (pow_pos w))

pub wrap_bits_same : (s : Bool) (w : ℕ) {a b : ℤ} → Same (2 ^ w) a b → wrap_bits s w a ≡ wrap_bits s w b
wrap_bits_same s w e = ap (reading s w) (residue_same (pow_pos w) e)

-- a number of w bits is left as it is
pub wrap_bits-fits : (s : Bool) (w : ℕ) (z : ℤ) → 0 < w → FitsBits s w z → wrap_bits s w z ≡ z
wrap_bits-fits false w (pos n) p f = ap pos (mod-eq_of_lt f)
wrap_bits-fits false w (negsuc n) p f = absurd f
wrap_bits-fits true w (pos n) p f =
    let half : 2 ^ (w - 1) + 2 ^ (w - 1) ≡ 2 ^ w = two_halves w p in
    let small : n < 2 ^ w = omega arith in
    let is : n % 2 ^ w ≡ n = mod-eq_of_lt small in
    ap (reading true w) is ∙ ap (λ t. if t then pos n else negsuc (2 ^ w - 1 - n)) (nat_lt_is_true f)
wrap_bits-fits true w (negsuc n) p f =
    let half : 2 ^ (w - 1) + 2 ^ (w - 1) ≡ 2 ^ w = two_halves w p in
    let small : n < 2 ^ w = omega arith in
    let is : 2 ^ w - 1 - n % 2 ^ w ≡ 2 ^ w - 1 - n = ap (λ x. 2 ^ w - 1 - x) (mod-eq_of_lt small) in
    let back : 2 ^ w - 1 - (2 ^ w - 1 - n) ≡ n = omega arith in
    ap (reading true w) is ∙ ap (λ t. if t then pos (2 ^ w - 1 - n) else negsuc (2 ^ w - 1 - (2 ^ w - 1 - n))) (nat_lt_is_false (omega arith)) ∙ ap negsuc back

-- only one number of w bits differs from z by a multiple
pub fitting_same : (s : Bool) (w : ℕ) {a b : ℤ} → 0 < w → FitsBits s w a → FitsBits s w b → Same (2 ^ w) a b → a ≡ b
fitting_same s w {a} {b} p f g e = sym (wrap_bits-fits s w a p f) ∙ wrap_bits_same s w e ∙ wrap_bits-fits s w b p g

-- from the lowest to the highest number, and no other
pub fits_between : (s : Bool) (w : ℕ) (z : ℤ) → 0 < w → FitsBits s w z ↔ (low_bits s w ≤ℤ z) × (z ≤ℤ high_bits s w)
fits_between s w z p = (to s z, from s z)
  where
    whole : 0 < 2 ^ w
    whole = pow_pos w

    half : 0 < 2 ^ (w - 1)
    half = pow_pos (w - 1)

    to : (s : Bool) (z : ℤ) → FitsBits s w z → (low_bits s w ≤ℤ z) × (z ≤ℤ high_bits s w)
    to false (pos n) f = (omega (arith, ints), omega (arith, ints, whole))
    to false (negsuc n) f = absurd f
    to true (pos n) f = (omega (arith, ints, half), omega (arith, ints, half))
    to true (negsuc n) f = (omega (arith, ints, half), omega (arith, ints, half))

    from : (s : Bool) (z : ℤ) → (low_bits s w ≤ℤ z) × (z ≤ℤ high_bits s w) → FitsBits s w z
    from false (pos n) f = omega (arith, ints, f.1, whole)
    from false (negsuc n) f = omega (arith, ints, f.0)
    from true (pos n) f = omega (arith, ints, f.1, half)
    from true (negsuc n) f = omega (arith, ints, f.0, half)
