use Rattle.std.proofs.Common.{ap, ◌∙◌, map}
use Rattle.plc_declared.specs.Order.{seen}
use Rattle.plc_declared.proofs.Ordering.{type_seen}
use Rattle.plc_declared.proofs.order.types.Goals as goal

pub loop-k-preserved : goal.loop-k-preserved
loop-k-preserved c =
    let lt = rw c.as_slice-def-items.ensures at c.loop-k-test.true in
    let is = rw c.as_slice-def-items.ensures at c.def-item.is in
    ap (map (seen c.args.unit.now)) c.in_ok-push.ensures.ok ∙ type_seen c.args.unit.now c.loop-k.k c.def-item.result c.loop-k.items lt is c.loop-k.invariant
