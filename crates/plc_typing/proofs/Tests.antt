-- What the tests of the typing say where they hold.
use Rattle.std.proofs.Common.{◌≡◌, refl, sym, ap, ◌∙◌, ℕ, Bool, true, false, Option, Some, None, get_or, arith}
use Rattle.std.specs.Prelude.{◌&&◌, ℤ, pos, negsuc, nat_le, nat_eq, is_some, unwrap_or, if◌then◌else◌}
use Rattle.std.specs.Option.{option_map_or}
use Rattle.std.proofs.lemmas.Bool.{and_parts}
use Rattle.std.proofs.lemmas.Bool.Decides.{nat_tests}
use Rattle.plc_base.specs.declared.elem.Elem.{Elem}
use Rattle.plc_base.specs.declared.elem.Elem.TheVariants.{Sint, Int, Dint, Lint, Usint, Uint, Udint, Ulint, Byte, Word, Dword, Lword, Bool as Boolean, Time}
use Rattle.plc_base.specs.Numbers.{elems, Fits}
use Rattle.plc_tree.specs.declared.tree.BinOp.{BinOp}
use Rattle.plc_tree.specs.declared.tree.BinOp.TheVariants.{Or, Xor, And, Eq, Ne, Lt, Gt, Le, Ge, Add, Sub, Mul, Div, Rem}
use Rattle.plc_tree.specs.declared.tree.UnOp.{UnOp}
use Rattle.plc_tree.specs.declared.tree.UnOp.TheVariants.{Minus, Not}
use Rattle.plc_tree.specs.declared.typed.TypeId.TheVariants as of
use Rattle.plc_tree.specs.WellTyped.{IsRow, IsRowOfOne}
use Rattle.plc_typing.specs.Scope.{order, is_elem}
use Rattle.plc_typing.specs.Uses.{is_as_wanted}
use Rattle.plc_typing.specs.Plain.{is_in_int, is_of, is_built, side_of, result_of, type_of_one, plain_number, plain_unary, plain_binary}

-- ---- types

-- the type at a place of the order
nth_of : (e : Elem) → get_or elems (order e) Sint ≡ e
nth_of Sint = refl
nth_of Int = refl
nth_of Dint = refl
nth_of Lint = refl
nth_of Usint = refl
nth_of Uint = refl
nth_of Udint = refl
nth_of Ulint = refl
nth_of Byte = refl
nth_of Word = refl
nth_of Dword = refl
nth_of Lword = refl
nth_of Boolean = refl
nth_of Time = refl

same_number : (a b : ℕ) → nat_eq a b ≡ true → a ≡ b
same_number a b h = grind (arith, nat_tests)

pub elem_is : (a b : Elem) → is_elem a b ≡ true → a ≡ b
elem_is a b h = sym (nth_of a) ∙ ap (λ n. get_or elems n Sint) (same_number (order a) (order b) h) ∙ nth_of b

pub of_type : (want : Elem) (o : Option Elem) → is_of want o ≡ true → o ≡ Some want
of_type want None h = absurd (let x : false ≡ true = h in cc)
of_type want (Some e) h = ap Some (sym (elem_is want e h))

pub known_type : (o : Option Elem) → is_some o ≡ true → o ≡ Some (unwrap_or o Int)
known_type None h = absurd (let x : false ≡ true = h in cc)
known_type (Some e) h = refl

pub int_fits : (z : ℤ) → is_in_int z ≡ true → Fits Int z
int_fits (pos n) h = let le : nat_le n 32767 ≡ true = h in grind (arith, nat_tests)
int_fits (negsuc n) h = let le : nat_le n 32767 ≡ true = (and_parts (nat_le n 32767) true h).0 in grind (arith, nat_tests)

-- ---- operators

-- what is built is a row of the table
pub row_is : (op : BinOp) → is_built op ≡ true → IsRow op (of.Elem (side_of op)) (of.Elem (result_of op))
row_is Or h = (refl, refl)
row_is Xor h = (refl, refl)
row_is And h = (refl, refl)
row_is Eq h = refl
row_is Ne h = refl
row_is Lt h = refl
row_is Gt h = refl
row_is Le h = refl
row_is Ge h = refl
row_is Add h = (refl, refl)
row_is Sub h = (refl, refl)
row_is Mul h = (refl, refl)
row_is Div h = let x : false ≡ true = h in cc
row_is Rem h = let x : false ≡ true = h in cc

pub row_of_one : (op : UnOp) → IsRowOfOne op (of.Elem (type_of_one op))
row_of_one Minus = refl
row_of_one Not = refl

-- ---- plain expressions

-- a type that is there under a condition
under : (b : Bool) (t : Elem) → is_some (if b then Some t else None) ≡ true → b ≡ true
under true t h = refl
under false t h = h

there : {b : Bool} (t : Elem) → b ≡ true → (if b then Some t else None) ≡ Some t
there t e = ap (λ b. if b then Some t else None) e

pub number_plain : (z : ℤ) (want : Option Elem) → is_some (plain_number z want) ≡ true → (plain_number z want ≡ Some Int) × Fits Int z
number_plain z want h =
    let holds = under (option_map_or (is_elem Int) want true && is_in_int z) Int h in
    (there Int holds, int_fits z (and_parts (option_map_or (is_elem Int) want true) (is_in_int z) holds).1)

pub unary_plain : (op : UnOp) (c : Bool) (inner : Option Elem) → is_some (plain_unary op c inner) ≡ true
    → (plain_unary op c inner ≡ Some (type_of_one op)) × (inner ≡ Some (type_of_one op))
unary_plain op true inner h = absurd (let x : false ≡ true = h in cc)
unary_plain op false inner h =
    let holds = under (is_of (type_of_one op) inner) (type_of_one op) h in
    (there (type_of_one op) holds, of_type (type_of_one op) inner holds)

-- a binary operator that is plain
pub record IsPlainBinary (op : BinOp) (c : Bool) (l r : Option Elem) : Type 0 where
  pub plain : plain_binary op c l r ≡ Some (result_of op)
  pub row : IsRow op (of.Elem (side_of op)) (of.Elem (result_of op))
  pub left : l ≡ Some (side_of op)
  pub right : r ≡ Some (side_of op)

pub binary_plain : (op : BinOp) (c : Bool) (l r : Option Elem) → is_some (plain_binary op c l r) ≡ true → IsPlainBinary op c l r
binary_plain op true l r h = absurd (let x : false ≡ true = h in cc)
binary_plain op false l r h =
    let holds = under (is_built op && (is_of (side_of op) l && is_of (side_of op) r)) (result_of op) h in
    let parts = and_parts (is_built op) (is_of (side_of op) l && is_of (side_of op) r) holds in
    let sides = and_parts (is_of (side_of op) l) (is_of (side_of op) r) parts.1 in
    record { plain = there (result_of op) holds; row = row_is op parts.0; left = of_type (side_of op) l sides.0; right = of_type (side_of op) r sides.1 }

-- of the type that is wanted, where it is of one
pub as_wanted : (want ty : Elem) (o : Option Elem) → o ≡ Some ty → is_as_wanted (Some want) o ≡ true → o ≡ Some want
as_wanted want ty o e h = let same : is_elem want ty ≡ true = ap (λ x. is_as_wanted (Some want) x) (sym e) ∙ h in e ∙ ap Some (sym (elem_is want ty same))
