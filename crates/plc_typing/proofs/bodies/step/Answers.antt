use Rattle.std.proofs.Common.{sym, ap, ◌∙◌, Some}
use Rattle.std.specs.Prelude.{not}
use Rattle.plc_base.specs.declared.elem.Elem.TheVariants.{Int}
use Rattle.plc_base.proofs.LeastLaws.{meets_as}
use Rattle.plc_typing.specs.Constants.{const_of, is_zero}
use Rattle.plc_typing.specs.Scope.{types_of}
use Rattle.plc_typing.specs.Uses.{step_faults}
use Rattle.plc_typing.proofs.Wholes.{whole_met}
use Rattle.plc_typing.proofs.bodies.step.Goals as goal

pub returns : goal.returns
returns c =
    let types = types_of c.args.scope.now in
    let e = c.in-Some.expr in
    let k = c.in_ok-known.ensures.known in
    meets_as (step_faults types (Some e)) (step_faults types c.args.expr.now) c.args.met.now c.whole.new.met (ap (step_faults types) (sym c.in-Some.is))
    (whole_met types e (Some Int) c.in_ok-known.known.elem (not (is_zero (const_of e))) (not c.is_zero-does.result) c.args.met.now c.plain_node.new.met c.whole.new.met
    (ap (λ p. p.elem) k) (ap not (c.is_zero-does.ensures ∙ ap is_zero c.const_of.ensures)) c.in_ok-known.ensures.met c.whole.ensures)
