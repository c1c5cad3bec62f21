use Rattle.std.proofs.Common.{arith}
use Rattle.circles.proofs.Walked.{walked}
use Rattle.circles.proofs.walk.Walk.of.Goals as goal

pub returns : goal.returns
returns c =
    let i = c.loop-node.invariant in
    walked c.args.needs.now c.loop-node.walk i.goes i.rests
    (λ a lt. i.met a (omega (arith, c.len-node-end.ensures.count, c.loop-node-test.false)))
