use Rattle.std.proofs.Common.{refl, ap, true}
use Rattle.plc_typing.specs.Scope.{types_of}
use Rattle.plc_typing.proofs.Wholes.{whole_met}
use Rattle.plc_typing.proofs.bodies.expression.Goals as goal

pub returns : goal.returns
returns c =
    let types = types_of c.args.scope.now in
    let e = c.args.expr.now in
    let k = c.in_ok-known.ensures.known in
    whole_met types e c.args.want c.in_ok-known.known.elem true true c.args.met.now c.plain_node.new.met c.whole.new.met (ap (λ p. p.elem) k) refl c.in_ok-known.ensures.met c.whole.ensures
