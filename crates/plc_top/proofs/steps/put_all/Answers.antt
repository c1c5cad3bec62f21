use Rattle.std.proofs.Common.{refl}
use Rattle.plc_outside.proofs.CallsLemmas.{put-finishes, put-fails}
use Rattle.plc_top.proofs.Loops.{none_made, one_made, one_failed, next_put}
use Rattle.plc_top.proofs.steps.put_all.Goals as goal

pub loop-text-init : goal.loop-text-init
loop-text-init g c = (none_made _ _, refl)

pub returns-in-Err : goal.returns-in-Err
returns-in-Err g c =
    let m = rw c.bytes.ensures at c.in-Err.ensures in
    let t = rw c.bytes-in-Err.ensures at c.cannot_write.ensures in
    one_failed _ _ _ _ _ _ _ (next_put _ _ _ _ _ _ c.loop-text-test.true c.text-item.is c.loop-text.invariant.0) (put-fails _ _ _ _ _ _ m) (record { files = refl; console = t })

pub loop-text-preserved : goal.loop-text-preserved
loop-text-preserved g c =
    let m = rw c.bytes.ensures at c.in-Ok.ensures in
    (one_made _ _ _ _ _ _ (next_put _ _ _ _ _ _ c.loop-text-test.true c.text-item.is c.loop-text.invariant.0) (put-finishes _ _ _ _ _ _ m), c.loop-text.invariant.1)
