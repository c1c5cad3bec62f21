-- What is met of statements, put together of what is met of their parts.
use Rattle.std.proofs.Common.{◌≡◌, sym, ap, ◌∙◌, List, ◌++◌, Bool, Option, Result, OnOk}
use Rattle.std.proofs.lemmas.Result.{on_ok_weaker}
use Rattle.plc_base.specs.declared.refusal.Refusal.{Refusal}
use Rattle.plc_base.specs.Least.{Meets}
use Rattle.plc_base.proofs.LeastLaws.{meets_as, meets_next}
use Rattle.plc_tree.specs.declared.tree.Stmt.{Stmt}
use Rattle.plc_typing.specs.Scope.{Types}
use Rattle.plc_typing.specs.Uses.{stmt_faults}

-- one that is given by an equation, and whose broken uses are those of two parts
pub stmt_met : {T E : Type 0} (types : Types) (inside : Bool) (x y : Stmt) (us vs : List Refusal) (r : Result T E) (a b c : Option Refusal)
    → x ≡ y → stmt_faults types inside y ≡ us ++ vs → Meets us a b → OnOk r (Meets vs b c) → OnOk r (Meets (stmt_faults types inside x) a c)
stmt_met types inside x y us vs r a b c e f h g = on_ok_weaker r (meets_as (us ++ vs) (stmt_faults types inside x) a c (sym f ∙ ap (stmt_faults types inside) (sym e))) (meets_next r us vs a b c h g)
