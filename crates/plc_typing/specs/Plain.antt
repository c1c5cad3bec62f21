-- The plain expressions, those of INT and BOOL that are built so far, and their types (IEC 61131-3, 3.3.1).
use Rattle.std.specs.Prelude.{Bool, true, false, ◌&&◌, ℤ, int_le, Option, Some, None, if◌then◌else◌}
use Rattle.std.specs.Option.{option_map_or}
use Rattle.plc_base.specs.declared.elem.Elem.{Elem}
use Rattle.plc_base.specs.declared.elem.Elem.TheVariants.{Int, Bool as Boolean}
use Rattle.plc_base.specs.Numbers.{low, high}
use Rattle.plc_tree.specs.declared.tree.BinOp.{BinOp}
use Rattle.plc_tree.specs.declared.tree.BinOp.TheVariants.{Or, Xor, And, Eq, Ne, Lt, Gt, Le, Ge, Add, Sub, Mul, Div, Rem}
use Rattle.plc_tree.specs.declared.tree.UnOp.{UnOp}
use Rattle.plc_tree.specs.declared.tree.UnOp.TheVariants.{Minus, Not}
use Rattle.plc_tree.specs.declared.tree.Expr.{Expr, Number, Truth, Span, Value, Var', Paren', Unary', Binary', Call', Row_of-Expr, end_of-Expr, more_of-Expr, Row_of-Part, end_of-Part, more_of-Part}
use Rattle.plc_typing.specs.Scope.{Types, is_elem}
use Rattle.plc_typing.specs.Constants.{one_has_const}

-- from one to another number
abbrev pub is_between : ℤ → ℤ → ℤ → Bool
is_between low high z = int_le low z && int_le z high

abbrev pub is_in_int : ℤ → Bool
is_in_int z = is_between (low Int) (high Int) z

-- ---- operators: the type of the sides, the type of the result, and whether they are built

-- INT, but for the operators on bits
abbrev pub side_of : BinOp → Elem
side_of Or = Boolean
side_of Xor = Boolean
side_of And = Boolean
side_of Eq = Int
side_of Ne = Int
side_of Lt = Int
side_of Gt = Int
side_of Le = Int
side_of Ge = Int
side_of Add = Int
side_of Sub = Int
side_of Mul = Int
side_of Div = Int
side_of Rem = Int

abbrev pub result_of : BinOp → Elem
result_of Or = Boolean
result_of Xor = Boolean
result_of And = Boolean
result_of Eq = Boolean
result_of Ne = Boolean
result_of Lt = Boolean
result_of Gt = Boolean
result_of Le = Boolean
result_of Ge = Boolean
result_of Add = Int
result_of Sub = Int
result_of Mul = Int
result_of Div = Int
result_of Rem = Int

-- division isn't built yet
abbrev pub is_built : BinOp → Bool
is_built Or = true
is_built Xor = true
is_built And = true
is_built Eq = true
is_built Ne = true
is_built Lt = true
is_built Gt = true
is_built Le = true
is_built Ge = true
is_built Add = true
is_built Sub = true
is_built Mul = true
is_built Div = false
is_built Rem = false

-- of the operand and of the result
abbrev pub type_of_one : UnOp → Elem
type_of_one Minus = Int
type_of_one Not = Boolean

-- ---- the types of plain expressions

abbrev pub is_of : Elem → Option Elem → Bool
is_of want o = option_map_or (is_elem want) o false

-- an integer within INT, with that type before it or none
abbrev pub plain_number : ℤ → Option Elem → Option Elem
plain_number z want = if option_map_or (is_elem Int) want true && is_in_int z then Some Int else None

-- a variable without an index or a field
abbrev pub plain_variable : Option Elem → {m : _} → Row_of-Part m → Option Elem
plain_variable ty end_of-Part = ty
plain_variable ty (more_of-Part p rest) = None

-- not over a number alone
abbrev pub plain_unary : UnOp → Bool → Option Elem → Option Elem
plain_unary op true inner = None
plain_unary op false inner = if is_of (type_of_one op) inner then Some (type_of_one op) else None

-- nor between two
abbrev pub plain_binary : BinOp → Bool → Option Elem → Option Elem → Option Elem
plain_binary op true l r = None
plain_binary op false l r = if is_built op && (is_of (side_of op) l && is_of (side_of op) r) then Some (result_of op) else None

abbrev mutual
  pub plain : Types → Expr → Option Elem
  plain types (Number z want at) = plain_number z want
  plain types (Truth b at) = Some Boolean
  plain types (Span ns at) = None
  plain types (Value owner name at name_at) = None
  plain types (Var' first at h parts) = plain_variable (types first) parts
  plain types (Paren' at h inner) = plain_one types inner
  plain types (Unary' op at h inner) = plain_unary op (one_has_const inner) (plain_one types inner)
  plain types (Binary' op at h l k r) = plain_binary op (one_has_const l && one_has_const r) (plain_one types l) (plain_one types r)
  plain types (Call' name at h args) = None

  -- of the one expression in a row
  pub plain_one : Types → {m : _} → Row_of-Expr m → Option Elem
  plain_one types end_of-Expr = None
  plain_one types (more_of-Expr e rest) = plain types e
