use Rattle.std.proofs.Common.{◌≡◌, ◌≤◌, arith}
use Rattle.plc_outside.specs.declared.fault.FileFault.TheVariants.{Failed, OutOfMemory}
use Rattle.iec2c.proofs.ReadingLemmas.{first_at_fault, first_of_more, whole_added}
use Rattle.iec2c.proofs.reading.read_start.Goals.{then-count-left, else-count-left}
use Rattle.iec2c.proofs.reading.read_start.Goals as goal

pub returns-in-Err-clause-known : goal.returns-in-Err-clause-known
returns-in-Err-clause-known g c = first_at_fault _ _ _ _ _ _ Failed c.loop-count.invariant.added

pub returns-in-Err-extend_from_slice-clause-known :
    goal.returns-in-Err-extend_from_slice-clause-known
returns-in-Err-extend_from_slice-clause-known g c = rw c.in-Err-extend_from_slice.ensures.items (first_at_fault _ _ _ _ _ _ OutOfMemory c.loop-count.invariant.added)

pub returns-then-left-count-clause-known : goal.returns-then-left-count-clause-known
returns-then-left-count-clause-known g c =
    let same : c.if-count-left.given ≡ c.loop-count.left = elim c.if-count-left.branch [
      | then-count-left w ↦ omega (arith, w.if-count-left.true, c.if-left-count.true)
      | else-count-left w ↦ w.given-is
    ] in
    first_of_more _ _ _ _ _ _ _ _ _ _ _ c.loop-count.invariant.added c.if-left-count.true c.in-Ok.ensures.bound.0 same c.in-Ok.ensures.bytes.0 c.in-Ok-extend_from_slice.ensures.items

pub loop-count-preserved : goal.loop-count-preserved
loop-count-preserved g c =
    let fits : c.in-Ok.count ≤ c.loop-count.left = omega (arith, c.if-left-count.false) in
    let same : c.if-count-left.given ≡ c.in-Ok.count = elim c.if-count-left.branch [
      | then-count-left w ↦ w.given-is
      | else-count-left w ↦ omega (arith, w.if-count-left.false, w.given-is, fits)
    ] in
    record {
      added = whole_added _ _ _ _ _ _ _ _ _ _ _ c.loop-count.invariant.added c.in-Ok.ensures.bound.0 same fits c.in-Ok.ensures.bytes.0 c.in-Ok-extend_from_slice.ensures.items;
      faults = cc (c.in-Ok.ensures.kept, c.loop-count.invariant.faults);
    }
