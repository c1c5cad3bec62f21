use Rattle.plc_base.proofs.LeastLaws.{meets_as}
use Rattle.std.specs.Prelude.{◌&&◌}
use Rattle.plc_typing.specs.Uses.{suits, place_of_expr, is_as_wanted}
use Rattle.plc_typing.proofs.bodies.whole.Goals as goal

pub returns : goal.returns
returns c =
    let e = c.args.expr.now in
    meets_as (suits c.suits_whole.result c.place_of_expr.result) (suits (c.args.does && is_as_wanted c.args.want c.args.elem) (place_of_expr e)) c.args.met.now c.suits.new.met
    (λ i. suits (c.suits_whole.ensures i) (c.place_of_expr.ensures i)) c.suits.ensures
