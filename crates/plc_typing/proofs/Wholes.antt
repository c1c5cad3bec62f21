-- What is met of whole expressions.
use Rattle.std.proofs.Common.{◌≡◌, Bool, Option}
use Rattle.std.specs.Prelude.{◌&&◌}
use Rattle.plc_base.specs.declared.elem.Elem.{Elem}
use Rattle.plc_base.specs.declared.refusal.Refusal.{Refusal}
use Rattle.plc_base.specs.Least.{Meets}
use Rattle.plc_base.proofs.LeastLaws.{meets_as, meets_then}
use Rattle.plc_tree.specs.declared.tree.Expr.{Expr}
use Rattle.plc_typing.specs.Plain.{plain}
use Rattle.plc_typing.specs.Scope.{Types}
use Rattle.plc_typing.specs.Uses.{suits, node_faults, whole_faults, place_of_expr, is_as_wanted}

-- its nodes, and then the whole, where its type and whether it does what is wanted are given by equations
pub whole_met : (types : Types) (x : Expr) (want elem : Option Elem) (does b : Bool) (m n o : Option Refusal) → elem ≡ plain types x → b ≡ does
    → Meets (node_faults types x) m n → Meets (suits (b && is_as_wanted want elem) (place_of_expr x)) n o → Meets (whole_faults types does want x) m o
whole_met types x want elem does b m n o e f h g =
    let here = suits (does && is_as_wanted want (plain types x)) (place_of_expr x) in
    meets_then (node_faults types x) here m n o h (meets_as (suits (b && is_as_wanted want elem) (place_of_expr x)) here n o (λ i. suits (f i && is_as_wanted want (e i)) (place_of_expr x)) g)
