use Rattle.std.proofs.Common.{ap, Some}
use Rattle.std.specs.Prelude.{not}
use Rattle.plc_base.specs.declared.elem.Elem.TheVariants.{Int}
use Rattle.plc_typing.specs.Constants.{has_const}
use Rattle.plc_typing.specs.Scope.{types_of}
use Rattle.plc_typing.proofs.Wholes.{whole_met}
use Rattle.plc_typing.proofs.bodies.selector.Goals as goal

pub returns : goal.returns
returns c =
    let types = types_of c.args.scope.now in
    let e = c.args.expr.now in
    let k = c.in_ok-known.ensures.known in
    whole_met types e (Some Int) c.in_ok-known.known.elem (not (has_const e)) (not c.in_ok-known.known.has_const) c.args.met.now c.plain_node.new.met c.whole.new.met (ap (λ p. p.elem) k) (ap (λ p. not p.has_const) k) c.in_ok-known.ensures.met c.whole.ensures
