use Rattle.std.proofs.Common.{◌≡◌, sym, ap, ◌∙◌, length, true, false}
use Rattle.std.specs.Prelude.{◌==◌}
use Rattle.plc_base.proofs.LeastLaws.{meets_as}
use Rattle.plc_tree.specs.declared.tree.Expr.{Var}
use Rattle.plc_typing.specs.Scope.{types_of}
use Rattle.plc_typing.specs.Uses.{path_faults, node_faults}
use Rattle.plc_typing.proofs.UseViews.{faults-Var, plain_bare, plain_parts}
use Rattle.plc_typing.proofs.plain.variable.Goals as goal

pub returns-then-bare-clause-known : goal.returns-then-bare-clause-known
returns-then-bare-clause-known c =
    let types = types_of c.args.scope.now in
    let v = c.args.variable.now in
    let bare : (length v.parts == 0) ≡ true = sym (c.is_empty-bare.ensures ∙ ap (λ ps. length ps == 0) c.as_slice.ensures) ∙ c.if-bare.true in
    let is : c.in_ok-elem.elem ≡ _ = c.in_ok-elem.ensures.elem ∙ sym (plain_bare (types v.first) v.parts bare) in
    λ i. record { elem = is i; has_const = false }

pub returns-then-bare-clause-met : goal.returns-then-bare-clause-met
returns-then-bare-clause-met c =
    let types = types_of c.args.scope.now in
    let v = c.args.variable.now in
    meets_as (path_faults types v) (node_faults types (Var v)) c.args.met.now c.path.new.met (sym (faults-Var types v)) c.in_ok-elem.ensures.met

pub returns-else-bare-clause-known : goal.returns-else-bare-clause-known
returns-else-bare-clause-known c =
    let types = types_of c.args.scope.now in
    let v = c.args.variable.now in
    let parts : (length v.parts == 0) ≡ false = sym (c.is_empty-bare.ensures ∙ ap (λ ps. length ps == 0) c.as_slice.ensures) ∙ c.if-bare.false in
    λ i. record { elem = sym (plain_parts (types v.first) v.parts parts) i; has_const = false }

pub returns-else-bare-clause-met : goal.returns-else-bare-clause-met
returns-else-bare-clause-met c =
    let types = types_of c.args.scope.now in
    let v = c.args.variable.now in
    meets_as (path_faults types v) (node_faults types (Var v)) c.args.met.now c.path.new.met (sym (faults-Var types v)) c.in_ok-elem.ensures.met
