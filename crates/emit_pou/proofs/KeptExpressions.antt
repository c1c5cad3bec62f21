-- What holds of each form of the emitted expressions, where so many brackets are open in it, holds of the C of each
-- typed expression.
use Rattle.std.proofs.Common.{◌≡◌, refl, subst, ℕ, ◌+◌, ◌*◌, ◌^◌, ◌≤◌, List, [], ◌∷◌, max, arith, Bool, true, false, Option, Some, None}
use Rattle.std.specs.Prelude.{ℤ, pos, nat_eq, if◌then◌else◌}
use Rattle.std.proofs.Math.Nat.{le-max_left, le-max_right}
use Rattle.std.proofs.lemmas.Option.{none-some, same_Some}
use Rattle.plc_base.specs.declared.elem.Elem.{Elem}
use Rattle.plc_base.specs.declared.elem.Elem.TheVariants.{Usint, Ulint}
use Rattle.plc_base.specs.Numbers.{residue}
use Rattle.plc_base.proofs.Wrapping.{literal_lt}
use Rattle.plc_tree.specs.declared.tree.BinOp.{BinOp}
use Rattle.plc_tree.specs.declared.tree.BinOp.TheVariants as op
use Rattle.plc_tree.specs.declared.tree.UnOp.{UnOp}
use Rattle.plc_tree.specs.declared.tree.UnOp.TheVariants.{Minus, Not}
use Rattle.plc_tree.specs.declared.typed.TypeId.{TypeId}
use Rattle.plc_tree.specs.declared.typed.TVar.{TVar}
use Rattle.plc_tree.specs.declared.typed.TExpr.{TExpr, Number, Truth, Var, Paren', Unary', Binary', Row_of-TExpr, end_of-TExpr, more_of-TExpr}
use Rattle.plc_tree.specs.Execution.{truth}
use Rattle.plc_tree.specs.Rows.{elem_of}
use Rattle.plc_tree.specs.TypedHeights.{height, height_one, height_if_any}
use Rattle.plc_tree.specs.WellTyped.{var_in, type_of, HasType, OneHasType, IsStep}
use Rattle.c_tree.specs.declared.tree.CBin.{CBin}
use Rattle.c_tree.specs.declared.tree.CBin.TheVariants as bin
use Rattle.c_tree.specs.declared.tree.CExpr.{CExpr}
use Rattle.c_tree.specs.declared.tree.CExpr.TheVariants as expr
use Rattle.c_tree.specs.declared.tree.CNum.{CNum}
use Rattle.c_tree.specs.declared.tree.CNum.TheVariants.{Int, ULL}
use Rattle.c_tree.specs.CTokens.{IsName, IsOfKind}
use Rattle.c_tree.specs.WellSpelled.{Every}
use Rattle.c_meaning.specs.Reach.{local_shape, plain_shape}
use Rattle.emit_pou.specs.CNames.{pick_name, case_name, step_name, limit_name}
use Rattle.emit_pou.specs.Expressions.{plain_path, leaf, literal, in_64_bits, operation, taken_from, operation_of_one, c_expr, c_side}
use Rattle.emit_pou.specs.Statements.{small, body_locals, held, c_step}

-- ---- variables

-- what holds of each variable holds of the one with a number
pub every_var : (P : TVar → Type 0) (vs : List TVar) (id : ℕ) (v : TVar) → Every P vs → var_in vs id ≡ Some v → P v
every_var P [] id v h e = absurd (none-some v e)
every_var P (w ∷ vs) id v h e = by (nat_eq w.id id) e (every_var P vs id v h.1)
  where
    by : (b : Bool) → (if b then Some w else var_in vs id) ≡ Some v → (var_in vs id ≡ Some v → P v) → P v
    by true e later = subst P (same_Some w v e) h.0
    by false e later = later e

-- one with a type is there
pub typed_var : (o : Option TVar) (ty : TypeId) → type_of o ≡ Some ty → (v : TVar) × (o ≡ Some v)
typed_var None ty e = absurd (none-some ty e)
typed_var (Some v) ty e = (v, refl)

-- a local of a body
pub record IsLocal (name : List ℕ) : Type 0 where
  pub elem : Elem
  pub known : local_shape body_locals name ≡ Some (plain_shape elem)
  pub word : IsName name

pub is_pick : IsLocal pick_name
is_pick = record { elem = Usint; known = refl; word = refl }

pub is_case : IsLocal case_name
is_case = record { elem = Ulint; known = refl; word = refl }

pub is_step : IsLocal step_name
is_step = record { elem = Ulint; known = refl; word = refl }

pub is_limit : IsLocal limit_name
is_limit = record { elem = Ulint; known = refl; word = refl }

-- ---- forms

-- what holds of each form, if of its sides, where so many brackets are open
pub record ExprsKeep (vs : List TVar) (P : ℕ → CExpr → Type 0) : Type 0 where
  pub wider : (n m : ℕ) (c : CExpr) → n ≤ m → P n c → P m c
  pub number : (value : ℕ) (kind : CNum) → IsOfKind value kind → P 0 (expr.Number value kind)
  pub var : (id : ℕ) (v : TVar) → var_in vs id ≡ Some v → P 1 (expr.GetVar (leaf vs id))
  pub working : (name : List ℕ) → IsLocal name → P 0 (expr.Path (plain_path name))
  pub cast : (n : ℕ) (t : Elem) (c : CExpr) → 1 ≤ n → P n c → P (n + 1) (expr.Cast t c)
  pub join : (n : ℕ) (o : CBin) (a b : CExpr) → P n a → P n b → P (n + 1) (expr.Bin o a b)

-- how many brackets the C of an expression of a height opens at most: 3 more with each operator
abbrev pub expr_opens : ℕ → ℕ
expr_opens h = 3 * h + 2

taken_fits : (o : UnOp) → IsOfKind (taken_from o) ULL
taken_fits Minus = omega arith
taken_fits Not = omega arith

module _ (vs : List TVar) (P : ℕ → CExpr → Type 0) (keep : ExprsKeep vs P) where
  pub small_kept : (n k : ℕ) → k ≤ 2 → P n (small k)
  small_kept n k h = keep.wider 0 n _ (omega arith) (keep.number k Int (omega (arith, h)))

  pub literal_kept : (t : Elem) (z : ℤ) → P 2 (literal t z)
  literal_kept t z = let l = literal_lt z in keep.cast 1 t _ (omega arith) (keep.wider 0 1 _ (omega arith) (keep.number (residue (2 ^ 64) z) ULL (omega (arith, l))))

  pub held_kept : (t : Elem) (name : List ℕ) → IsLocal name → P 2 (held t name)
  held_kept t name l = keep.cast 1 t _ (omega arith) (keep.wider 0 1 _ (omega arith) (keep.working name l))

  pub in_64_bits_kept : (n : ℕ) (o : CBin) (t : Elem) (a b : CExpr) → 1 ≤ n → P n a → P n b → P (n + 1 + 1 + 1) (in_64_bits t (expr.Bin o) a b)
  in_64_bits_kept n o t a b l f g = keep.cast (n + 1 + 1) t _ (omega arith) (keep.join (n + 1) o _ _ (keep.cast n Ulint a l f) (keep.cast n Ulint b l g))

  module _ (n : ℕ) (t : Elem) (a b : CExpr) (l : 1 ≤ n) (f : P n a) (g : P n b) where
    plain_kept : (o : CBin) → P (n + 1 + 1 + 1) (expr.Bin o a b)
    plain_kept o = keep.wider (n + 1) (n + 1 + 1 + 1) _ (omega arith) (keep.join n o a b f g)

    wide_kept : (o : CBin) → P (n + 1 + 1 + 1) (in_64_bits t (expr.Bin o) a b)
    wide_kept o = in_64_bits_kept n o t a b l f g

    operation_kept : (o : BinOp) → P (n + 1 + 1 + 1) (operation o t a b)
    operation_kept op.Or = plain_kept bin.Or
    operation_kept op.Xor = plain_kept bin.Xor
    operation_kept op.And = plain_kept bin.And
    operation_kept op.Eq = plain_kept bin.Eq
    operation_kept op.Ne = plain_kept bin.Ne
    operation_kept op.Lt = plain_kept bin.Lt
    operation_kept op.Gt = plain_kept bin.Gt
    operation_kept op.Le = plain_kept bin.Le
    operation_kept op.Ge = plain_kept bin.Ge
    operation_kept op.Add = wide_kept bin.Add
    operation_kept op.Sub = wide_kept bin.Sub
    operation_kept op.Mul = wide_kept bin.Mul
    operation_kept op.Div = keep.wider n (n + 1 + 1 + 1) a (omega arith) f
    operation_kept op.Rem = keep.wider n (n + 1 + 1 + 1) a (omega arith) f

  -- and of one operand
  operation_of_one_kept : (n : ℕ) (o : UnOp) (t : Elem) (a : CExpr) → 1 ≤ n → P n a → P (n + 1 + 1 + 1) (operation_of_one o t a)
  operation_of_one_kept n o t a l f =
      keep.cast (n + 1 + 1) t _ (omega arith)
      (keep.join (n + 1) bin.Sub _ _ (keep.wider 0 (n + 1) _ (omega arith) (keep.number (taken_from o) ULL (taken_fits o))) (keep.cast n Ulint a l f))

  -- ---- each expression

  mutual
    unfolding c_expr

    pub each_expr : (e : TExpr) (t : TypeId) → HasType vs e t → P (expr_opens (height e)) (c_expr vs e)
    each_expr (Number z ty) t g = literal_kept (elem_of ty) z
    each_expr (Truth b ty) t g = literal_kept (elem_of ty) (truth b)
    each_expr (Var p ty) t g = let v = typed_var (var_in vs p.first) ty g.1 in keep.wider 1 2 _ (omega arith) (keep.var p.first v.0 v.1)
    each_expr (Paren' ty h inner) t g = keep.wider (expr_opens (height_one inner)) _ _ (omega arith) (each_side inner ty g.1)
    each_expr (Unary' o ty h inner) t g =
        keep.wider (expr_opens (height_one inner) + 1 + 1 + 1) _ _ (omega arith)
        (operation_of_one_kept (expr_opens (height_one inner)) o (elem_of ty) (c_side vs inner) (omega arith) (each_side inner ty g.2))
    each_expr (Binary' o ty h l k r) t g =
        let n : ℕ = expr_opens (max (height_one l) (height_one r)) in
        let i : expr_opens (height_one l) ≤ n = let m = le-max_left (height_one l) (height_one r) in omega (arith, m) in
        let j : expr_opens (height_one r) ≤ n = let m = le-max_right (height_one l) (height_one r) in omega (arith, m) in
        keep.wider (n + 1 + 1 + 1) _ _ (omega arith)
        (operation_kept n (elem_of ty) (c_side vs l) (c_side vs r) (omega arith) (keep.wider _ n _ i (each_side l g.1.0 g.1.2)) (keep.wider _ n _ j (each_side r g.1.0 g.1.3)) o)

    each_side : {m : _} (r : Row_of-TExpr m) (t : TypeId) → OneHasType vs r t → P (expr_opens (height_one r)) (c_side vs r)
    each_side end_of-TExpr t g = absurd g
    each_side (more_of-TExpr e rest) t g = each_expr e t g

  -- the step of a FOR, which is 1 where there is none
  pub step_kept : (t : Elem) (step : Option TExpr) (ty : TypeId) → IsStep vs step ty → P (expr_opens (height_if_any step)) (c_step vs t step)
  step_kept t None ty g = literal_kept t (pos 1)
  step_kept t (Some e) ty g = each_expr e ty g
