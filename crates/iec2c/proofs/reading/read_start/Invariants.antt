use Rattle.std.proofs.Common.{◌≡◌}
use Rattle.iec2c.proofs.ReadingLemmas.{AddedSoFar}
use Rattle.iec2c.proofs.reading.read_start.Given as goal

abbrev pub invariant-loop-count : goal.invariant-loop-count
invariant-loop-count g l = record {
  added : AddedSoFar l.most l.left (g.S.CountedRead.left l.initial.source) (g.S.CountedRead.left l.source) l.initial.into.items l.into.items;
  faults : g.S.CountedRead.faults l.source ≡ g.S.CountedRead.faults l.initial.source;
}

abbrev pub decreases-loop-count : goal.decreases-loop-count
decreases-loop-count g l = l.left
