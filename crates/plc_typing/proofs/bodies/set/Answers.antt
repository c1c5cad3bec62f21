use Rattle.std.proofs.Common.{ap}
use Rattle.std.proofs.lemmas.Result.{on_ok_weaker}
use Rattle.plc_base.proofs.LeastLaws.{meets_as, meets_next}
use Rattle.plc_typing.specs.Scope.{types_of}
use Rattle.plc_typing.specs.Uses.{path_faults, expr_faults}
use Rattle.plc_typing.proofs.bodies.set.Goals as goal

pub returns : goal.returns
returns c =
    let types = types_of c.args.scope.now in
    let to = c.args.to.now in
    let from = c.args.from.now in
    let b = c.path.new.met in
    let d = c.expression.new.met in
    meets_next c.expression.result (path_faults types to) (expr_faults types (types to.first) from) c.args.met.now b d c.in_ok-want.ensures.met
    (on_ok_weaker c.expression.result
    (meets_as (expr_faults types c.in_ok-want.want from) (expr_faults types (types to.first) from) b d (ap (λ want. expr_faults types want from) c.in_ok-want.ensures.elem)) c.expression.ensures)
