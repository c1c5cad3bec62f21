-- The values of the operators at the edges of their types, and each undefined case beside its nearest defined neighbours, computed.
use Rattle.std.proofs.Common.{◌≡◌, ℕ, [], ◌∷◌, pos, negsuc, refl}
use Rattle.std.specs.Prelude.{ℤ}
use Rattle.plc_base.specs.declared.elem.Elem.TheVariants as elem
use Rattle.plc_base.specs.declared.which.Which.TheVariants.{Overflow, DivZero, Shift}
use Rattle.c_tree.specs.declared.tree.CBin.{CBin}
use Rattle.c_tree.specs.declared.tree.CBin.TheVariants.{Add, Sub, Mul, Div, Rem, And, Or, Xor, Shl, Shr, Eq, Ne, Lt, Le, Gt, Ge}
use Rattle.c_tree.specs.declared.tree.CUn.{CUn}
use Rattle.c_tree.specs.declared.tree.CUn.TheVariants.{Minus, Not, Complement}
use Rattle.c_meaning.specs.Outcome.{COut, CDone, Undefined}
use Rattle.c_meaning.specs.Values.{I32, U32, I64, U64, CVal, of_type, c_bin, c_un}
use Rattle.c_meaning.specs.Execution.{c_cast}

-- the numbers of each type
abbrev int : ℤ → CVal
int z = of_type I32 z

abbrev unsigned : ℕ → CVal
unsigned n = of_type U32 (pos n)

abbrev long : ℤ → CVal
long z = of_type I64 z

abbrev unsigned_long : ℕ → CVal
unsigned_long n = of_type U64 (pos n)

-- with one unit of fuel, which is left
abbrev of : CVal → CBin → CVal → COut CVal
of a op b = c_bin op a b 1

abbrev before : CUn → CVal → COut CVal
before op a = c_un op a 1

abbrev is : CVal → COut CVal
is v = CDone v 1

abbrev overflow : COut CVal
overflow = Undefined Overflow

abbrev by_zero : COut CVal
by_zero = Undefined DivZero

abbrev bad_shift : COut CVal
bad_shift = Undefined Shift

-- the least number of int, and of long long
abbrev least_int : CVal
least_int = int (negsuc 2147483647)

abbrev least_long : CVal
least_long = long (negsuc 9223372036854775807)

-- ---- + - *

sums :
    of (int (pos 2147483646)) Add (int (pos 1)) ∷ of (int (pos 2147483647)) Add (int (pos 1)) ∷ of least_int Add (int (pos 0)) ∷ of least_int Add (int (negsuc 0))
    ∷ of (long (pos 2147483647)) Add (int (pos 1)) ∷ of (long (pos 9223372036854775807)) Add (int (pos 1)) ∷ of (unsigned 4294967295) Add (int (pos 1)) ∷ of (unsigned_long 18446744073709551615) Add (int (pos 2)) ∷ []
    ≡ is (int (pos 2147483647)) ∷ overflow ∷ is least_int ∷ overflow
    ∷ is (long (pos 2147483648)) ∷ overflow ∷ is (unsigned 0) ∷ is (unsigned_long 1) ∷ []
sums = refl

differences :
    of least_int Sub (int (pos 0)) ∷ of least_int Sub (int (pos 1)) ∷ of (int (pos 0)) Sub least_int ∷ of (int (negsuc 0)) Sub least_int
    ∷ of least_long Sub (long (pos 1)) ∷ of (long (negsuc 0)) Sub least_long ∷ of (unsigned 0) Sub (unsigned 1) ∷ of (unsigned_long 0) Sub (unsigned_long 1) ∷ []
    ≡ is least_int ∷ overflow ∷ overflow ∷ is (int (pos 2147483647))
    ∷ overflow ∷ is (long (pos 9223372036854775807)) ∷ is (unsigned 4294967295) ∷ is (unsigned_long 18446744073709551615) ∷ []
differences = refl

products :
    of (int (pos 46340)) Mul (int (pos 46341)) ∷ of (int (pos 46341)) Mul (int (pos 46341)) ∷ of least_int Mul (int (pos 1)) ∷ of least_int Mul (int (negsuc 0))
    ∷ of (long (pos 46341)) Mul (int (pos 46341)) ∷ of least_long Mul (long (negsuc 0)) ∷ of (unsigned 65536) Mul (unsigned 65536) ∷ of (unsigned_long 4294967296) Mul (unsigned_long 4294967297) ∷ []
    ≡ is (int (pos 2147441940)) ∷ overflow ∷ is least_int ∷ overflow
    ∷ is (long (pos 2147488281)) ∷ overflow ∷ is (unsigned 0) ∷ is (unsigned_long 4294967296) ∷ []
products = refl

-- ---- / %

-- toward zero; the least number by -1 is undefined in its type and defined where the sides were narrower
quotients :
    of (int (negsuc 6)) Div (int (pos 2)) ∷ of (int (pos 7)) Div (int (negsuc 1)) ∷ of (int (pos 7)) Div (int (pos 0)) ∷ of least_int Div (int (pos 0))
    ∷ of least_int Div (int (negsuc 0)) ∷ of (int (negsuc 2147483646)) Div (int (negsuc 0)) ∷ of (int (negsuc 32767)) Div (int (negsuc 0)) ∷ of (int (negsuc 127)) Div (int (negsuc 0))
    ∷ of least_long Div (int (negsuc 0)) ∷ of least_int Div (long (negsuc 0)) ∷ of (unsigned 4294967295) Div (unsigned 2) ∷ of (unsigned 1) Div (unsigned 0) ∷ of (int (negsuc 0)) Div (unsigned 1) ∷ []
    ≡ is (int (negsuc 2)) ∷ is (int (negsuc 2)) ∷ by_zero ∷ by_zero
    ∷ overflow ∷ is (int (pos 2147483647)) ∷ is (int (pos 32768)) ∷ is (int (pos 128))
    ∷ overflow ∷ is (long (pos 2147483648)) ∷ is (unsigned 2147483647) ∷ by_zero ∷ is (unsigned 4294967295) ∷ []
quotients = refl

remainders :
    of (int (negsuc 6)) Rem (int (pos 2)) ∷ of (int (pos 7)) Rem (int (negsuc 1)) ∷ of (int (pos 7)) Rem (int (pos 0)) ∷ of least_int Rem (int (negsuc 0))
    ∷ of (int (negsuc 2147483646)) Rem (int (negsuc 0)) ∷ of least_long Rem (long (negsuc 0)) ∷ of least_int Rem (long (negsuc 0)) ∷ of (unsigned 4294967295) Rem (unsigned 16) ∷ of (unsigned_long 1) Rem (unsigned_long 0) ∷ []
    ≡ is (int (negsuc 0)) ∷ is (int (pos 1)) ∷ by_zero ∷ overflow
    ∷ is (int (pos 0)) ∷ overflow ∷ is (long (pos 0)) ∷ is (unsigned 15) ∷ by_zero ∷ []
remainders = refl

-- ---- << >>: the type is that of the left side, and the count is no part of it

shifts_left :
    of (int (pos 1)) Shl (int (pos 30)) ∷ of (int (pos 1)) Shl (int (pos 31)) ∷ of (int (pos 0)) Shl (int (pos 31)) ∷ of (int (pos 1)) Shl (int (pos 32)) ∷ of (int (pos 1)) Shl (int (negsuc 0))
    ∷ of (int (negsuc 0)) Shl (int (pos 0)) ∷ of (int (pos 1)) Shl (long (pos 4294967296)) ∷ of (int (pos 1)) Shl (unsigned_long 4) ∷ of (unsigned 1) Shl (int (pos 31)) ∷ of (unsigned 3) Shl (int (pos 31)) ∷ of (unsigned 1) Shl (int (pos 32))
    ∷ of (long (pos 1)) Shl (int (pos 62)) ∷ of (long (pos 1)) Shl (int (pos 63)) ∷ of (long (pos 0)) Shl (int (pos 64)) ∷ of (unsigned_long 1) Shl (int (pos 63)) ∷ of (unsigned_long 1) Shl (int (pos 64)) ∷ []
    ≡ is (int (pos 1073741824)) ∷ overflow ∷ is (int (pos 0)) ∷ bad_shift ∷ bad_shift
    ∷ bad_shift ∷ bad_shift ∷ is (int (pos 16)) ∷ is (unsigned 2147483648) ∷ is (unsigned 2147483648) ∷ bad_shift
    ∷ is (long (pos 4611686018427387904)) ∷ overflow ∷ bad_shift ∷ is (unsigned_long 9223372036854775808) ∷ bad_shift ∷ []
shifts_left = refl

shifts_right :
    of (int (pos 7)) Shr (int (pos 1)) ∷ of (int (pos 2147483647)) Shr (int (pos 31)) ∷ of (int (pos 0)) Shr (int (pos 32)) ∷ of (int (negsuc 0)) Shr (int (pos 1)) ∷ of (int (pos 1)) Shr (int (negsuc 0))
    ∷ of (unsigned 4294967295) Shr (int (pos 31)) ∷ of (long (pos 4294967296)) Shr (int (pos 32)) ∷ of (long (pos 1)) Shr (int (pos 64)) ∷ of (unsigned_long 18446744073709551615) Shr (int (pos 63)) ∷ of least_long Shr (int (pos 0)) ∷ []
    ≡ is (int (pos 3)) ∷ is (int (pos 0)) ∷ bad_shift ∷ bad_shift ∷ bad_shift
    ∷ is (unsigned 1) ∷ is (long (pos 1)) ∷ bad_shift ∷ is (unsigned_long 1) ∷ bad_shift ∷ []
shifts_right = refl

-- ---- & | ^

bits :
    of (int (negsuc 0)) And (int (pos 255)) ∷ of least_int And (int (pos 2147483647)) ∷ of (int (negsuc 0)) And (unsigned 4294967295) ∷ of least_int Or (int (pos 2147483647)) ∷ of (int (pos 12)) Or (int (pos 10))
    ∷ of (int (negsuc 0)) Xor (int (pos 1)) ∷ of (int (pos 12)) Xor (int (pos 10)) ∷ of (int (negsuc 0)) Xor (long (pos 0)) ∷ of (int (negsuc 0)) Xor (unsigned_long 0) ∷ []
    ≡ is (int (pos 255)) ∷ is (int (pos 0)) ∷ is (unsigned 4294967295) ∷ is (int (negsuc 0)) ∷ is (int (pos 14))
    ∷ is (int (negsuc 1)) ∷ is (int (pos 6)) ∷ is (long (negsuc 0)) ∷ is (unsigned_long 18446744073709551615) ∷ []
bits = refl

-- ---- comparisons give int 0 or 1; -1 is the greatest number where it meets an unsigned one

comparisons :
    of (int (negsuc 0)) Lt (int (pos 0)) ∷ of (int (negsuc 0)) Lt (unsigned 0) ∷ of (int (negsuc 0)) Lt (long (pos 0)) ∷ of (int (negsuc 0)) Gt (unsigned_long 1) ∷ of (long (negsuc 0)) Ge (unsigned 4294967295)
    ∷ of least_int Le least_int ∷ of least_int Lt least_int ∷ of (int (negsuc 0)) Eq (unsigned 4294967295) ∷ of (int (negsuc 0)) Eq (long (pos 4294967295)) ∷ of (int (pos 1)) Ne (unsigned_long 1) ∷ of (int (pos 1)) Ne (int (pos 2)) ∷ []
    ≡ is (int (pos 1)) ∷ is (int (pos 0)) ∷ is (int (pos 1)) ∷ is (int (pos 1)) ∷ is (int (pos 0))
    ∷ is (int (pos 1)) ∷ is (int (pos 0)) ∷ is (int (pos 1)) ∷ is (int (pos 0)) ∷ is (int (pos 0)) ∷ is (int (pos 1)) ∷ []
comparisons = refl

-- ---- before one side

negations :
    before Minus (int (pos 2147483647)) ∷ before Minus (int (negsuc 2147483646)) ∷ before Minus least_int ∷ before Minus least_long ∷ before Minus (long (negsuc 2147483647)) ∷ before Minus (unsigned 1) ∷ before Minus (unsigned_long 0) ∷ []
    ≡ is (int (negsuc 2147483646)) ∷ is (int (pos 2147483647)) ∷ overflow ∷ overflow ∷ is (long (pos 2147483648)) ∷ is (unsigned 4294967295) ∷ is (unsigned_long 0) ∷ []
negations = refl

refusals : before Not (int (pos 0)) ∷ before Not (int (negsuc 0)) ∷ before Not (unsigned_long 0) ∷ before Not (long (pos 4294967296)) ∷ []
    ≡ is (int (pos 1)) ∷ is (int (pos 0)) ∷ is (int (pos 1)) ∷ is (int (pos 0)) ∷ []
refusals = refl

complements : before Complement (int (pos 0)) ∷ before Complement least_int ∷ before Complement (int (pos 5)) ∷ before Complement (long (pos 0)) ∷ before Complement (unsigned 0) ∷ before Complement (unsigned_long 1) ∷ []
    ≡ is (int (negsuc 0)) ∷ is (int (pos 2147483647)) ∷ is (int (negsuc 5)) ∷ is (long (negsuc 0)) ∷ is (unsigned 4294967295) ∷ is (unsigned_long 18446744073709551614) ∷ []
complements = refl

-- ---- casts

casts : c_cast elem.Bool (int (pos 2)) ∷ c_cast elem.Sint (int (pos 128)) ∷ c_cast elem.Usint (int (negsuc 0)) ∷ c_cast elem.Udint (int (negsuc 0)) ∷ c_cast elem.Dint (unsigned_long 2147483648) ∷ c_cast elem.Ulint (int (negsuc 0)) ∷ c_cast elem.Time (unsigned_long 9223372036854775808) ∷ []
    ≡ int (pos 0) ∷ int (negsuc 127) ∷ int (pos 255) ∷ unsigned 4294967295 ∷ least_int ∷ unsigned_long 18446744073709551615 ∷ least_long ∷ []
casts = refl
