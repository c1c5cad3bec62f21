-- What is known and met of each node of an expression, by what is known and met of its parts.
use Rattle.std.proofs.Common.{◌≡◌, sym, ap, Option, ◌++◌}
use Rattle.plc_base.specs.declared.refusal.Place.{Place}
use Rattle.plc_base.specs.declared.refusal.Refusal.{Refusal}
use Rattle.plc_base.specs.Least.{Meets}
use Rattle.plc_base.proofs.LeastLaws.{meets_as, meets_then}
use Rattle.plc_tree.specs.declared.tree.BinOp.{BinOp}
use Rattle.plc_tree.specs.declared.tree.UnOp.{UnOp}
use Rattle.plc_tree.specs.declared.tree.Expr.{Expr, Paren, Unary, Binary}
use Rattle.plc_typing.specs.Nodes.{known, of_unary, of_binary, unary_faults, binary_faults}
use Rattle.plc_typing.specs.Scope.{Types}
use Rattle.plc_typing.specs.Uses.{node_faults}
use Rattle.plc_typing.proofs.ConstantViews.{has_const-Paren, has_const-Unary, has_const-Binary}
use Rattle.plc_typing.proofs.UseViews.{faults-Paren, plain-Paren, faults-Unary, plain-Unary, faults-Binary, plain-Binary}

module _ (types : Types) where
  -- what is met of an expression that is given by an equation
  pub node_met : (x y : Expr) (a b : Option Refusal) → x ≡ y → Meets (node_faults types x) a b → Meets (node_faults types y) a b
  node_met x y a b e h = meets_as (node_faults types x) (node_faults types y) a b (ap (node_faults types) e) h

  -- ---- a parenthesis

  pub known-Paren : (at : Place) (x : Expr) → known types x ≡ known types (Paren at x)
  known-Paren at x = λ i. record { elem = sym (plain-Paren types at x) i; has_const = sym (has_const-Paren at x) i }

  pub met-Paren : (at : Place) (x : Expr) (a b : Option Refusal) → Meets (node_faults types x) a b → Meets (node_faults types (Paren at x)) a b
  met-Paren at x a b h = meets_as (node_faults types x) (node_faults types (Paren at x)) a b (sym (faults-Paren types at x)) h

  -- ---- an operator before one operand

  module _ (op : UnOp) (at : Place) (x : Expr) where
    pub known-Unary : of_unary op (known types x) ≡ known types (Unary op at x)
    known-Unary = λ i. record { elem = sym (plain-Unary types op at x) i; has_const = sym (has_const-Unary op at x) i }

    pub met-Unary : (a b c : Option Refusal) → Meets (node_faults types x) a b → Meets (unary_faults op at (known types x)) b c → Meets (node_faults types (Unary op at x)) a c
    met-Unary a b c h g =
        meets_as (node_faults types x ++ unary_faults op at (known types x)) (node_faults types (Unary op at x)) a c (sym (faults-Unary types op at x))
        (meets_then (node_faults types x) (unary_faults op at (known types x)) a b c h g)

  -- ---- an operator with two sides

  module _ (op : BinOp) (at : Place) (x y : Expr) where
    pub known-Binary : of_binary op (known types x) (known types y) ≡ known types (Binary op at x y)
    known-Binary = λ i. record { elem = sym (plain-Binary types op at x y) i; has_const = sym (has_const-Binary op at x y) i }

    pub met-Binary : (a b c d : Option Refusal) → Meets (node_faults types x) a b → Meets (node_faults types y) b c
        → Meets (binary_faults op at (known types x) (known types y)) c d → Meets (node_faults types (Binary op at x y)) a d
    met-Binary a b c d h g k =
        let here = binary_faults op at (known types x) (known types y) in
        meets_as (node_faults types x ++ (node_faults types y ++ here)) (node_faults types (Binary op at x y)) a d (sym (faults-Binary types op at x y))
        (meets_then (node_faults types x) (node_faults types y ++ here) a b d h (meets_then (node_faults types y) here b c d g k))
