use Rattle.circles.proofs.Answering.{described}
use Rattle.circles.proofs.circles.Circles.of.Goals as goal

pub returns : goal.returns
returns c =
    let w = c.in_ok-walk.walk in
    let told = c.in_ok-circular.ensures in
    described c.args.needs.now w.order.items w.place.items c.in_ok-under.under.items c.deref.result.now c.in_ok-circular.circular.items c.in_ok-walk.ensures c.in_ok-under.ensures c.deref.ensures.value told.sized told.each
