-- The numbers that expressions have by themselves (IEC 61131-3, 2.2.1): those of integer literals, and of parentheses,
-- signs, sums, products and quotients over them.
use Rattle.std.specs.Prelude.{◌-◌, ◌^◌, Bool, true, false, ◌&&◌, ℤ, pos, negsuc, ◌+ℤ◌, ◌-ℤ◌, ◌*ℤ◌, int_le, Option, Some, None, if◌then◌else◌}
use Rattle.std.specs.Ordering.{int_eq}
use Rattle.plc_tree.specs.declared.tree.BinOp.{BinOp}
use Rattle.plc_tree.specs.declared.tree.BinOp.TheVariants.{Or, Xor, And, Eq, Ne, Lt, Gt, Le, Ge, Add, Sub, Mul, Div, Rem}
use Rattle.plc_tree.specs.declared.tree.UnOp.{UnOp}
use Rattle.plc_tree.specs.declared.tree.UnOp.TheVariants.{Minus, Not}
use Rattle.plc_tree.specs.declared.tree.Expr.{Expr, Number, Truth, Span, Value, Var', Paren', Unary', Binary', Call', Row_of-Expr, end_of-Expr, more_of-Expr}
use Rattle.plc_tree.specs.Execution.{quotient, remainder}

-- ---- whether one has a number

-- an operator over numbers
abbrev pub folds : BinOp → Bool
folds Or = false
folds Xor = false
folds And = false
folds Eq = false
folds Ne = false
folds Lt = false
folds Gt = false
folds Le = false
folds Ge = false
folds Add = true
folds Sub = true
folds Mul = true
folds Div = true
folds Rem = true

abbrev pub folds_one : UnOp → Bool
folds_one Minus = true
folds_one Not = false

abbrev mutual
  pub has_const : Expr → Bool
  has_const (Number z want at) = true
  has_const (Truth b at) = false
  has_const (Span ns at) = false
  has_const (Value owner name at name_at) = false
  has_const (Var' first at h parts) = false
  has_const (Paren' at h inner) = one_has_const inner
  has_const (Unary' op at h inner) = folds_one op && one_has_const inner
  has_const (Binary' op at h l k r) = folds op && (one_has_const l && one_has_const r)
  has_const (Call' name at h args) = false

  -- the one expression in a row
  pub one_has_const : {m : _} → Row_of-Expr m → Bool
  one_has_const end_of-Expr = false
  one_has_const (more_of-Expr e rest) = has_const e

-- ---- which number that is. One outside the 64 bits of all types is of no use, and none.

abbrev pub least : ℤ
least = negsuc (2 ^ 63 - 1)

abbrev pub most : ℤ
most = pos (2 ^ 64 - 1)

abbrev pub in_64_bits : ℤ → Option ℤ
in_64_bits z = if int_le least z && int_le z most then Some z else None

abbrev pub folded : BinOp → ℤ → ℤ → Option ℤ
folded Or a b = None
folded Xor a b = None
folded And a b = None
folded Eq a b = None
folded Ne a b = None
folded Lt a b = None
folded Gt a b = None
folded Le a b = None
folded Ge a b = None
folded Add a b = in_64_bits (a +ℤ b)
folded Sub a b = in_64_bits (a -ℤ b)
folded Mul a b = in_64_bits (a *ℤ b)
folded Div a b = in_64_bits (quotient a b)
folded Rem a b = in_64_bits (remainder a b)

abbrev pub folded_one : UnOp → ℤ → Option ℤ
folded_one Minus a = in_64_bits (pos 0 -ℤ a)
folded_one Not a = None

-- over numbers where there are some
abbrev pub of_two : BinOp → Option ℤ → Option ℤ → Option ℤ
of_two op None b = None
of_two op (Some a) None = None
of_two op (Some a) (Some b) = folded op a b

abbrev pub of_one : UnOp → Option ℤ → Option ℤ
of_one op None = None
of_one op (Some a) = folded_one op a

abbrev mutual
  pub const_of : Expr → Option ℤ
  const_of (Number z want at) = in_64_bits z
  const_of (Truth b at) = None
  const_of (Span ns at) = None
  const_of (Value owner name at name_at) = None
  const_of (Var' first at h parts) = None
  const_of (Paren' at h inner) = const_of_one inner
  const_of (Unary' op at h inner) = of_one op (const_of_one inner)
  const_of (Binary' op at h l k r) = of_two op (const_of_one l) (const_of_one r)
  const_of (Call' name at h args) = None

  pub const_of_one : {m : _} → Row_of-Expr m → Option ℤ
  const_of_one end_of-Expr = None
  const_of_one (more_of-Expr e rest) = const_of e

abbrev pub is_zero : Option ℤ → Bool
is_zero None = false
is_zero (Some z) = int_eq z (pos 0)
