-- The least broken use, by computation.
use Rattle.std.proofs.Common.{◌≡◌, refl}
use Rattle.std.specs.Prelude.{ℕ, pos, negsuc, [], ◌∷◌, List, Option, Some, None, codes}
use Rattle.plc_base.specs.Least.{least}
use Rattle.plc_base.specs.declared.elem.Elem.TheVariants.{Int, Bool as Boolean}
use Rattle.plc_base.specs.declared.refusal.Place.{Place}
use Rattle.plc_base.specs.declared.refusal.Refusal.{Refusal}
use Rattle.plc_base.specs.declared.refusal.Rule.TheVariants.{NotYet}
use Rattle.plc_tree.specs.declared.tree.Arg.TheBlock.{hidden-the_row-Expr-1, hidden-the_row-Part-0}
use Rattle.plc_tree.specs.declared.tree.BinOp.TheVariants.{Add, Sub, Lt}
use Rattle.plc_tree.specs.declared.tree.Expr.{Expr, Number, Var, Paren, Unary, Binary}
use Rattle.plc_tree.specs.declared.tree.Id.{Id}
use Rattle.plc_tree.specs.declared.tree.UnOp.TheVariants.{Minus}
use Rattle.plc_typing.specs.Scope.{Types, type_in}
use Rattle.plc_typing.specs.Uses.{expr_faults, pick_faults, step_faults, names_faults}
use Rattle.plc_typing.proofs.StandardNames.{standard_names}

-- A is of INT, and B of BOOL
abbrev types : Types
types = type_in ((codes "A", Int) ∷ (codes "B", Boolean) ∷ [])

-- a token in line 3, with the number of its column
abbrev at : ℕ → Place
at token = record { file = 0; line = 3; col = token; token = token }

abbrev unbuilt : ℕ → Option Refusal
unbuilt token = Some (record { rule = NotYet; place = at token })

abbrev number : ℕ → ℕ → Expr
number value token = Number (pos value) None (at token)

abbrev variable : List ℕ → ℕ → Expr
variable name token = Var (record { first = name; at = at token; parts = [] })

-- ---- steps and selectors: the operator of the whole comes before one in its parentheses

-- FOR K := 1 TO 2 BY 1 - (3 - 2)
difference : least (step_faults types (Some (Binary Sub (at 22) (number 1 20) (Paren (at 24) (Binary Sub (at 27) (number 3 25) (number 2 29))))))
    ≡ unbuilt 22
unfolding hidden-the_row-Expr-1 denote.Hole.Carrier.hidden
difference = refl

-- CASE 1 + (2 + 3) OF
sum : least (pick_faults types (Binary Add (at 8) (number 1 6) (Paren (at 10) (Binary Add (at 13) (number 2 11) (number 3 15))))) ≡ unbuilt 8
unfolding hidden-the_row-Expr-1 denote.Hole.Carrier.hidden
sum = refl

-- FOR K := 1 TO 2 BY -(1 - 1)
opposite : least (step_faults types (Some (Unary Minus (at 20) (Paren (at 21) (Binary Sub (at 24) (number 1 22) (number 1 26)))))) ≡ unbuilt 20
unfolding hidden-the_row-Expr-1 denote.Hole.Carrier.hidden
opposite = refl

-- BY -1, where the sign is the literal's
minus_one : least (step_faults types (Some (Number (negsuc 0) None (at 20)))) ≡ None
minus_one = refl

-- BY 0
zero : least (step_faults types (Some (number 0 20))) ≡ unbuilt 20
zero = refl

-- ---- values

-- A := A + D: no variable has the name
unknown : least (expr_faults types (Some Int) (Binary Add (at 8) (variable (codes "A") 6) (variable (codes "D") 10))) ≡ unbuilt 10
unfolding hidden-the_row-Expr-1 hidden-the_row-Part-0 denote.Hole.Carrier.hidden
unknown = refl

-- A := A + B: the sides are of two types
mixed : least (expr_faults types (Some Int) (Binary Add (at 8) (variable (codes "A") 6) (variable (codes "B") 10))) ≡ unbuilt 8
unfolding hidden-the_row-Expr-1 hidden-the_row-Part-0 denote.Hole.Carrier.hidden
mixed = refl

-- A := A < 1: a truth where a number is wanted
compared : least (expr_faults types (Some Int) (Binary Lt (at 8) (variable (codes "A") 6) (number 1 10))) ≡ unbuilt 8
unfolding hidden-the_row-Expr-1 hidden-the_row-Part-0 denote.Hole.Carrier.hidden
compared = refl

-- B := A < 1
as_wanted : least (expr_faults types (Some Boolean) (Binary Lt (at 8) (variable (codes "A") 6) (number 1 10))) ≡ None
unfolding hidden-the_row-Expr-1 hidden-the_row-Part-0 denote.Hole.Carrier.hidden
as_wanted = refl

-- ---- declared names

abbrev name : List ℕ → ℕ → Id
name word token = record { name = word; at = at token }

again : least (names_faults [] (name (codes "A") 1 ∷ name (codes "B") 2 ∷ name (codes "A") 3 ∷ [])) ≡ unbuilt 3
unfolding standard_names
again = refl

standard : least (names_faults [] (name (codes "A") 1 ∷ name (codes "INT_TO_DINT") 2 ∷ name (codes "TON") 3 ∷ [])) ≡ unbuilt 2
unfolding standard_names
standard = refl

apart : least (names_faults [] (name (codes "A") 1 ∷ name (codes "B") 2 ∷ name (codes "INT_TO_INT") 3 ∷ [])) ≡ None
unfolding standard_names
apart = refl
