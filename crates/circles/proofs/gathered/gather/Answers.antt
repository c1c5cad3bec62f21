use Rattle.std.proofs.Common.{◌<◌, length, arith}
use Rattle.circles.proofs.Walked.{same_get}
use Rattle.circles.proofs.Gathering.{gathers_more}
use Rattle.circles.proofs.gathered.gather.Goals as goal

pub loop-head-preserved : goal.loop-head-preserved
loop-head-preserved c =
    let g = c.args.needs.now in
    let w = c.args.walk.now in
    let queue = c.loop-head.queue.items in
    let t = c.in_ok-take_in.ensures in
    let lt : c.loop-head.head < length queue = omega (arith, c.loop-head-test.true, c.len.ensures, c.loop-head.queue.ok.0) in
    let node = c.index-in-loop-head.result.now in
    record {
      low = omega (arith, t.grows);
      gathering = gathers_more g w.order.items w.place.items c.requires.walked c.args.reversed.now c.loop-head.under.items queue c.take_in.new.under.items c.take_in.new.queue.items
          c.loop-head.head c.args.place node c.row-row.result.now c.requires.within c.requires.reversed lt
          (same_get queue c.loop-head.head node lt c.index-in-loop-head.ensures) c.row-row.ensures c.loop-head.invariant.gathering t;
    }
