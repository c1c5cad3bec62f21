-- What is left of a number in a type: its law, arithmetic in 64 bits that is cut to a type, and wider types.
use Rattle.std.proofs.lemmas.Bool.Decides.{nat_tests}
use Rattle.std.proofs.Common.{◌≡◌, refl, sym, ap, ◌∙◌, ℕ, ◌+◌, ◌-◌, ◌^◌, ◌<◌, ◌≤◌, arith, lit<, pow-add}
use Rattle.std.specs.Prelude.{◌↔◌, ◌≤ℤ◌, ℤ, pos, negsuc, ◌+ℤ◌, ◌-ℤ◌, ◌*ℤ◌, Bool, true, false, nat_lt, nat_le}
use Rattle.std.proofs.Math.Pow.{pow_mono}
use lib.Pow.{pow_pos}
use Rattle.plc_base.specs.Numbers.{width, is_signed, low, high, FitsBits, Fits, residue, wrap_bits, wrap}
use Rattle.plc_base.specs.declared.elem.Elem.{Elem}
use Rattle.plc_base.specs.declared.elem.Elem.TheVariants.{Bool as Boolean}
use Rattle.plc_base.proofs.Elems.{each}
use Rattle.plc_base.proofs.Same.{Same, same-sym, same-trans, same-add, same-sub, same-mul, same-part, residue_lt, same-wrap_bits, wrap_bits_same, fits-wrap_bits, wrap_bits-fits, fitting_same, fits_between}

-- ---- the elementary types

-- each type has a bit
pub width_some : (t : Elem) → 0 < width t
width_some t = let h : nat_lt 0 (width t) ≡ true = each (λ t. nat_lt 0 (width t)) refl t in grind (arith, nat_tests)

-- and none has more than 64
pub width_most : (t : Elem) → width t ≤ 64
width_most t = let h : nat_le (width t) 64 ≡ true = each (λ t. nat_le (width t) 64) refl t in grind (arith, nat_tests)

-- what is left of a number in a type is one of the type
pub fits-wrap : (t : Elem) (z : ℤ) → Fits t (wrap t z)
fits-wrap t z = fits-wrap_bits (is_signed t) (width t) z (width_some t)

-- it differs from the number by a multiple of 2 to the width
pub same-wrap : (t : Elem) (z : ℤ) → Same (2 ^ width t) (wrap t z) z
same-wrap t z = same-wrap_bits (is_signed t) (width t) z (width_some t)

-- no other number of the type does
pub wrap-only : (t : Elem) {a z : ℤ} → Fits t a → Same (2 ^ width t) a z → a ≡ wrap t z
wrap-only t {a} {z} f e = fitting_same (is_signed t) (width t) (width_some t) f (fits-wrap t z) (same-trans e (same-sym (same-wrap t z)))

-- a number of the type is left as it is
pub wrap-fits : (t : Elem) (z : ℤ) → Fits t z → wrap t z ≡ z
wrap-fits t z f = wrap_bits-fits (is_signed t) (width t) z (width_some t) f

-- the numbers of a type are those from its lowest to its highest
pub fits-between : (t : Elem) (z : ℤ) → Fits t z ↔ (low t ≤ℤ z) × (z ≤ℤ high t)
fits-between t z = fits_between (is_signed t) (width t) z (width_some t)

-- ---- arithmetic in 64 bits

-- z in 64 bits without a sign
abbrev pub unsigned_64 : ℤ → ℤ
unsigned_64 z = wrap_bits false 64 z

pub same-unsigned_64 : (z : ℤ) → Same (2 ^ 64) (unsigned_64 z) z
same-unsigned_64 z = same-wrap_bits false 64 z (lit< tt)

-- what 64 bits have kept is kept again
pub unsigned_64-twice : (z : ℤ) → unsigned_64 (unsigned_64 z) ≡ unsigned_64 z
unsigned_64-twice z = wrap_bits_same false 64 (same-unsigned_64 z)

-- numbers with the same 64 bits leave the same in any fewer
pub cut_same : (s : Bool) (w : ℕ) {a b : ℤ} → w ≤ 64 → Same (2 ^ 64) a b → wrap_bits s w a ≡ wrap_bits s w b
cut_same s w h e =
    let sum : 64 - w + w ≡ 64 = omega arith in
    wrap_bits_same s w (same-part (2 ^ w) (2 ^ (64 - w)) (ap (λ k. 2 ^ k) (sym sum) ∙ pow-add 2 (64 - w) w) e)

module _ (s : Bool) (w : ℕ) (h : w ≤ 64) where
  pub cut_once : (a : ℤ) → wrap_bits s w (unsigned_64 a) ≡ wrap_bits s w a
  cut_once a = cut_same s w h (same-unsigned_64 a)

  pub cut_add : (a b : ℤ) → wrap_bits s w (unsigned_64 (unsigned_64 a +ℤ unsigned_64 b)) ≡ wrap_bits s w (a +ℤ b)
  cut_add a b = cut_same s w h (same-trans (same-unsigned_64 _) (same-add (same-unsigned_64 a) (same-unsigned_64 b)))

  pub cut_sub : (a b : ℤ) → wrap_bits s w (unsigned_64 (unsigned_64 a -ℤ unsigned_64 b)) ≡ wrap_bits s w (a -ℤ b)
  cut_sub a b = cut_same s w h (same-trans (same-unsigned_64 _) (same-sub (same-unsigned_64 a) (same-unsigned_64 b)))

  pub cut_mul : (a b : ℤ) → wrap_bits s w (unsigned_64 (unsigned_64 a *ℤ unsigned_64 b)) ≡ wrap_bits s w (a *ℤ b)
  cut_mul a b = cut_same s w h (same-trans (same-unsigned_64 _) (same-mul (same-unsigned_64 a) (same-unsigned_64 b)))

module _ (t : Elem) where
  pub wrap_once : (a : ℤ) → wrap t (unsigned_64 a) ≡ wrap t a
  wrap_once = cut_once (is_signed t) (width t) (width_most t)

  pub wrap_add : (a b : ℤ) → wrap t (unsigned_64 (unsigned_64 a +ℤ unsigned_64 b)) ≡ wrap t (a +ℤ b)
  wrap_add = cut_add (is_signed t) (width t) (width_most t)

  pub wrap_sub : (a b : ℤ) → wrap t (unsigned_64 (unsigned_64 a -ℤ unsigned_64 b)) ≡ wrap t (a -ℤ b)
  wrap_sub = cut_sub (is_signed t) (width t) (width_most t)

  pub wrap_mul : (a b : ℤ) → wrap t (unsigned_64 (unsigned_64 a *ℤ unsigned_64 b)) ≡ wrap t (a *ℤ b)
  wrap_mul = cut_mul (is_signed t) (width t) (width_most t)

  -- a literal is written by its 64 bits
  pub wrap_literal : (z : ℤ) → wrap t (pos (residue (2 ^ 64) z)) ≡ wrap t z
  wrap_literal = wrap_once

  pub literal-fits : (z : ℤ) → Fits t z → wrap t (pos (residue (2 ^ 64) z)) ≡ z
  literal-fits z f = wrap_literal z ∙ wrap-fits t z f

pub literal_lt : (z : ℤ) → residue (2 ^ 64) z < 2 ^ 64
literal_lt z = residue_lt (2 ^ 64) z (pow_pos 64)

-- ---- numbers that fit in more than one type

pub fits_bits-zero : (s : Bool) (w : ℕ) → FitsBits s w (pos 0)
fits_bits-zero false w = pow_pos w
fits_bits-zero true w = pow_pos (w - 1)

pub fits-zero : (t : Elem) → Fits t (pos 0)
fits-zero t = fits_bits-zero (is_signed t) (width t)

-- the number of TRUE
pub fits-one : Fits Boolean (pos 1)
fits-one = lit< tt

-- v bits read with the sign q take each number of w bits with the sign s
abbrev pub IsWider : Bool → ℕ → Bool → ℕ → Type 0
IsWider false w false v = w ≤ v
IsWider false w true v = w < v
IsWider true w false v = ⊥
IsWider true w true v = w ≤ v

pub fits_wider : (s q : Bool) (w v : ℕ) (z : ℤ) → IsWider s w q v → FitsBits s w z → FitsBits q v z
fits_wider false false w v (pos n) h f = let more : 2 ^ w ≤ 2 ^ v = pow_mono h in omega arith
fits_wider false true w v (pos n) h f = let more : 2 ^ w ≤ 2 ^ (v - 1) = pow_mono (omega arith) in omega arith
fits_wider false q w v (negsuc n) h f = absurd f
fits_wider true false w v z h f = absurd h
fits_wider true true w v (pos n) h f = let more : 2 ^ (w - 1) ≤ 2 ^ (v - 1) = pow_mono (omega arith) in omega arith
fits_wider true true w v (negsuc n) h f = let more : 2 ^ (w - 1) ≤ 2 ^ (v - 1) = pow_mono (omega arith) in omega arith

-- a number keeps its value where all numbers of its width have a place
pub wrap_bits-wider : (s q : Bool) (w v : ℕ) (z : ℤ) → 0 < w → IsWider s w q v → FitsBits s w z → wrap_bits q v z ≡ z
wrap_bits-wider s q w v z p h f = wrap_bits-fits q v z (some s q h) (fits_wider s q w v z h f)
  where
    some : (s q : Bool) → IsWider s w q v → 0 < v
    some false false h = omega arith
    some false true h = omega arith
    some true false h = absurd h
    some true true h = omega arith
