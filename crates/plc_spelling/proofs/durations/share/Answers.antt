use Rattle.std.proofs.Common.{◌≡◌, ◌-◌, ◌+◌, ◌<◌, length, arith}
use Rattle.plc_spelling.proofs.DurationSums.{share-step}
use Rattle.plc_spelling.proofs.durations.share.Goals as goal

pub loop-left-preserved : goal.loop-left-preserved
loop-left-preserved c =
    let digits = c.args.digits.now in
    let i = c.loop-left.left - 1 in
    let at : c.loop-left.left ≡ i + 1 = omega arith in
    let inside : i < length digits = omega arith in
    let e = rw at at c.loop-left.invariant.1 in
    let s = share-step c.args.unit c.loop-left.share i digits c.requires inside e c.loop-left.invariant.2 in
    rw (c.from.ensures, c.from-in-loop-left.ensures) (omega arith, s.0, s.1)
