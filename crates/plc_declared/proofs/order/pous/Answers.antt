use Rattle.std.proofs.Common.{ap, ◌∙◌, map, Some}
use Rattle.plc_names.specs.Items.{pou_item}
use Rattle.plc_declared.specs.Order.{seen}
use Rattle.plc_declared.proofs.Ordering.{pou_seen, all_pous}
use Rattle.plc_declared.proofs.order.pous.Goals as goal

pub loop-k-preserved : goal.loop-k-preserved
loop-k-preserved c =
    let lt = rw c.as_slice-pou-items.ensures at c.loop-k-test.true in
    let is = rw c.as_slice-pou-items.ensures at c.pou-item.is in
    ap (map (seen c.args.unit.now)) c.in_ok-push.ensures.ok ∙ pou_seen c.args.unit.now c.loop-k.k c.pou-item.result c.loop-k.items lt is c.loop-k.invariant

pub returns : goal.returns
returns c =
    let le = rw c.as_slice-pou-items.ensures at c.loop-k-test.false in
    c.loop-k.invariant ∙ ap (λ ps. map Some (map pou_item ps)) (all_pous c.args.unit.now c.loop-k.k le)
