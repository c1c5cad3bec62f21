-- Values of the stated C (after C99, 6.2.5 and 6.3.1): int has 32 bits, long long 64, two's complement.
use Rattle.std.specs.Prelude.{ℕ, ℤ, pos, ◌/◌, ◌^◌, ◌+ℤ◌, ◌-ℤ◌, ◌*ℤ◌, neg_ℤ, int_le, int_lt, int_div, int_rem, unsigned_abs, Bool, true, false, not, ◌&&◌, if◌then◌else◌}
use Rattle.std.specs.Int.Bits.{bit_and, bit_or, bit_xor}
use Rattle.std.specs.Ordering.{int_eq}
use Rattle.plc_base.specs.declared.elem.Elem.{Elem}
use Rattle.plc_base.specs.declared.elem.Elem.TheVariants.{Sint, Int, Dint, Lint, Usint, Uint, Udint, Ulint, Byte, Word, Dword, Lword, Bool as Boolean, Time}
use Rattle.plc_base.specs.Numbers.{low_bits, high_bits, residue, reading, wrap_bits}
use Rattle.plc_base.specs.declared.which.Which.TheVariants.{Overflow, DivZero, Shift}
use Rattle.c_tree.specs.declared.tree.CBin.{CBin}
use Rattle.c_tree.specs.declared.tree.CBin.TheVariants.{Add, Sub, Mul, Div, Rem, And, Or, Xor, Shl, Shr, Eq, Ne, Lt, Le, Gt, Ge}
use Rattle.c_tree.specs.declared.tree.CUn.{CUn}
use Rattle.c_tree.specs.declared.tree.CUn.TheVariants as un
use Rattle.c_tree.specs.declared.tree.CNum.{CNum}
use Rattle.c_tree.specs.declared.tree.CNum.TheVariants as num
use Rattle.c_meaning.specs.Outcome.{COut, CDone, Undefined}

-- the types that operators work on
pub data Arith : Type 0 where
  I32 : Arith
  U32 : Arith
  I64 : Arith
  U64 : Arith

abbrev pub c_width : Arith → ℕ
c_width I32 = 32
c_width U32 = 32
c_width I64 = 64
c_width U64 = 64

abbrev pub c_signed : Arith → Bool
c_signed I32 = true
c_signed U32 = false
c_signed I64 = true
c_signed U64 = false

-- the integer promotions: values narrower than int become int
abbrev pub promoted : Elem → Arith
promoted Sint = I32
promoted Int = I32
promoted Dint = I32
promoted Lint = I64
promoted Usint = I32
promoted Uint = I32
promoted Udint = U32
promoted Ulint = U64
promoted Byte = I32
promoted Word = I32
promoted Dword = U32
promoted Lword = U64
promoted Boolean = I32
promoted Time = I64

-- a value and its type
pub record CVal : Type 0 where
  pub ty : Arith
  pub z : ℤ

abbrev pub of_type : Arith → ℤ → CVal
of_type t z = record { ty = t; z = z }

-- a conversion reduces modulo 2 to the width
abbrev pub convert : Arith → ℤ → ℤ
convert t z = wrap_bits (c_signed t) (c_width t) z

-- a number by its suffix
abbrev pub c_number : CNum → ℕ → CVal
c_number num.Int n = of_type I32 (pos n)
c_number num.LL n = of_type I64 (pos n)
c_number num.ULL n = of_type U64 (pos n)

-- ---- operators (after C99, 6.3.1.8, 6.5.3.3 and 6.5.5 to 6.5.12)

-- the usual arithmetic conversions: unsigned 64, else signed 64, else unsigned 32, else int
abbrev pub usual : Arith → Arith → Arith
usual U64 b = U64
usual I64 U64 = U64
usual I64 I32 = I64
usual I64 U32 = I64
usual I64 I64 = I64
usual U32 U64 = U64
usual U32 I64 = I64
usual U32 U32 = U32
usual U32 I32 = U32
usual I32 b = b

abbrev pub is_of : Arith → ℤ → Bool
is_of t z = int_le (low_bits (c_signed t) (c_width t)) z && int_le z (high_bits (c_signed t) (c_width t))

-- a signed result outside its type is undefined, an unsigned one is reduced
abbrev pub checked : Arith → ℤ → ℕ → COut CVal
checked t z n = if c_signed t then (if is_of t z then CDone (of_type t z) n else Undefined Overflow) else CDone (of_type t (convert t z)) n

-- comparisons give int 0 or 1
abbrev pub c_truth : Bool → CVal
c_truth true = of_type I32 (pos 1)
c_truth false = of_type I32 (pos 0)

-- bit by bit, on two's complement: no result is outside the type
abbrev pub c_bitwise : (ℕ → ℕ → ℕ) → Arith → ℤ → ℤ → CVal
c_bitwise f t a b = of_type t (reading (c_signed t) (c_width t) (f (residue (2 ^ c_width t) a) (residue (2 ^ c_width t) b)))

-- A division truncates toward zero. It is undefined by zero, and where the quotient is outside its type, a remainder too.
abbrev pub c_divided : (ℤ → ℤ → ℤ) → Arith → ℤ → ℤ → ℕ → COut CVal
c_divided f t a b n = if int_eq b (pos 0) then Undefined DivZero else if is_of t (int_div a b) then CDone (of_type t (f a b)) n else Undefined Overflow

-- a shift by fewer than the width, of what is not negative
abbrev pub can_shift : Arith → ℤ → ℤ → Bool
can_shift t a k = int_le (pos 0) a && int_le (pos 0) k && int_lt k (pos (c_width t))

-- to the left by a count: times 2 to it
abbrev pub c_left : Arith → ℤ → ℤ → ℕ → COut CVal
c_left t a k n = if can_shift t a k then checked t (a *ℤ pos (2 ^ unsigned_abs k)) n else Undefined Shift

-- to the right: divided by 2 to the count
abbrev pub c_right : Arith → ℤ → ℤ → ℕ → COut CVal
c_right t a k n = if can_shift t a k then CDone (of_type t (pos (unsigned_abs a / 2 ^ unsigned_abs k))) n else Undefined Shift

-- an operator on two numbers of one type, and a shift of a number of a type
abbrev pub c_apply : CBin → Arith → ℤ → ℤ → ℕ → COut CVal
c_apply Add t a b n = checked t (a +ℤ b) n
c_apply Sub t a b n = checked t (a -ℤ b) n
c_apply Mul t a b n = checked t (a *ℤ b) n
c_apply Div t a b n = c_divided int_div t a b n
c_apply Rem t a b n = c_divided int_rem t a b n
c_apply And t a b n = CDone (c_bitwise bit_and t a b) n
c_apply Or t a b n = CDone (c_bitwise bit_or t a b) n
c_apply Xor t a b n = CDone (c_bitwise bit_xor t a b) n
c_apply Shl t a b n = c_left t a b n
c_apply Shr t a b n = c_right t a b n
c_apply Eq t a b n = CDone (c_truth (int_eq a b)) n
c_apply Ne t a b n = CDone (c_truth (not (int_eq a b))) n
c_apply Lt t a b n = CDone (c_truth (not (int_le b a))) n
c_apply Le t a b n = CDone (c_truth (int_le a b)) n
c_apply Gt t a b n = CDone (c_truth (not (int_le a b))) n
c_apply Ge t a b n = CDone (c_truth (int_le b a)) n

-- both sides are converted to one type first
abbrev pub c_alike : CBin → CVal → CVal → ℕ → COut CVal
c_alike op a b n = c_apply op (usual a.ty b.ty) (convert (usual a.ty b.ty) a.z) (convert (usual a.ty b.ty) b.z) n

-- but for a shift: its value has the type of its left side, and its count is a number of any type
abbrev pub c_bin : CBin → CVal → CVal → ℕ → COut CVal
c_bin Shl a b n = c_apply Shl a.ty a.z b.z n
c_bin Shr a b n = c_apply Shr a.ty a.z b.z n
c_bin op a b n = c_alike op a b n

-- the operators before one side; `!` gives int 0 or 1
abbrev pub c_un : CUn → CVal → ℕ → COut CVal
c_un un.Minus v n = checked v.ty (neg_ℤ v.z) n
c_un un.Not v n = CDone (c_truth (int_eq v.z (pos 0))) n
c_un un.Complement v n = CDone (of_type v.ty (convert v.ty (neg_ℤ v.z -ℤ pos 1))) n
