-- The C of expressions: of the C type to which their type is promoted, and of the same number.
use Rattle.std.specs.Prelude.{ℕ, ◌-◌, ◌^◌, List, [], ℤ, pos, Option, Some, None}
use Rattle.plc_base.specs.declared.elem.Elem.{Elem}
use Rattle.plc_base.specs.declared.elem.Elem.TheVariants.{Ulint}
use Rattle.plc_base.specs.Numbers.{residue}
use Rattle.plc_tree.specs.declared.tree.BinOp.{BinOp}
use Rattle.plc_tree.specs.declared.tree.BinOp.TheVariants as op
use Rattle.plc_tree.specs.declared.tree.UnOp.{UnOp}
use Rattle.plc_tree.specs.declared.tree.UnOp.TheVariants.{Minus, Not}
use Rattle.plc_tree.specs.declared.typed.TVar.{TVar}
use Rattle.plc_tree.specs.declared.typed.TExpr.{TExpr, Number, Truth, Var, Paren', Unary', Binary', Row_of-TExpr, end_of-TExpr, more_of-TExpr}
use Rattle.plc_tree.specs.Execution.{truth}
use Rattle.plc_tree.specs.Rows.{elem_of}
use Rattle.plc_tree.specs.WellTyped.{var_in}
use Rattle.c_tree.specs.declared.tree.CPath.{CPath, roll-CPath}
use Rattle.c_tree.specs.declared.tree.CExpr.{CExpr}
use Rattle.c_tree.specs.declared.tree.CExpr.TheVariants as expr
use Rattle.c_tree.specs.declared.tree.CBin.TheVariants as bin
use Rattle.c_tree.specs.declared.tree.CNum.TheVariants.{ULL}
use Rattle.emit_pou.specs.CNames.{self_name}

-- ---- variables

abbrev pub plain_path : List ℕ → CPath
plain_path name = roll-CPath (record { first = name; arrow = None; parts = [] })

abbrev pub name_of_var : Option TVar → List ℕ
name_of_var None = []
name_of_var (Some v) = v.name

-- a variable of the running instance, by its name and by its number
abbrev pub own : List ℕ → CPath
own name = roll-CPath (record { first = self_name; arrow = Some name; parts = [] })

abbrev pub leaf : List TVar → ℕ → CPath
leaf vs id = own (name_of_var (var_in vs id))

-- ---- operators

-- a number by its 64 bits
abbrev pub literal : Elem → ℤ → CExpr
literal t z = expr.Cast t (expr.Number (residue (2 ^ 64) z) ULL)

-- an operator on 64 bits without a sign, of which nothing is undefined, and what is left of its result in the type
abbrev pub in_64_bits : Elem → (CExpr → CExpr → CExpr) → CExpr → CExpr → CExpr
in_64_bits t operator a b = expr.Cast t (operator (expr.Cast Ulint a) (expr.Cast Ulint b))

-- an operator with a result of this type; no typed body has a division yet
abbrev pub operation : BinOp → Elem → CExpr → CExpr → CExpr
operation op.Or t a b = expr.Bin bin.Or a b
operation op.Xor t a b = expr.Bin bin.Xor a b
operation op.And t a b = expr.Bin bin.And a b
operation op.Eq t a b = expr.Bin bin.Eq a b
operation op.Ne t a b = expr.Bin bin.Ne a b
operation op.Lt t a b = expr.Bin bin.Lt a b
operation op.Gt t a b = expr.Bin bin.Gt a b
operation op.Le t a b = expr.Bin bin.Le a b
operation op.Ge t a b = expr.Bin bin.Ge a b
operation op.Add t a b = in_64_bits t (expr.Bin bin.Add) a b
operation op.Sub t a b = in_64_bits t (expr.Bin bin.Sub) a b
operation op.Mul t a b = in_64_bits t (expr.Bin bin.Mul) a b
operation op.Div t a b = a
operation op.Rem t a b = a

-- what an operand is taken from: 0, or -1, in which all bits are set
abbrev pub taken_from : UnOp → ℕ
taken_from Minus = 0
taken_from Not = 2 ^ 64 - 1

abbrev pub operation_of_one : UnOp → Elem → CExpr → CExpr
operation_of_one o t a = expr.Cast t (expr.Bin bin.Sub (expr.Number (taken_from o) ULL) (expr.Cast Ulint a))

-- ---- expressions

unfoldable mutual
  pub c_expr : List TVar → TExpr → CExpr
  c_expr vs (Number z ty) = literal (elem_of ty) z
  c_expr vs (Truth b ty) = literal (elem_of ty) (truth b)
  c_expr vs (Var p ty) = expr.GetVar (leaf vs p.first)
  c_expr vs (Paren' ty h inner) = c_side vs inner
  c_expr vs (Unary' o ty h inner) = operation_of_one o (elem_of ty) (c_side vs inner)
  c_expr vs (Binary' o ty h l k r) = operation o (elem_of ty) (c_side vs l) (c_side vs r)

  -- of the one expression in a row
  pub c_side : List TVar → {m : _} → Row_of-TExpr m → CExpr
  c_side vs end_of-TExpr = literal Ulint (pos 0)
  c_side vs (more_of-TExpr e rest) = c_expr vs e
