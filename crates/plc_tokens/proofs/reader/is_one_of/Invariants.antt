use Rattle.std.proofs.Common.{◌≡◌, length}
use Rattle.phrase.specs.Piece.{has}
use Rattle.plc_tokens.specs.Sorts.{rank}
use Rattle.plc_tokens.proofs.reader.is_one_of.Given as goal

abbrev pub invariant-loop-sorts : goal.invariant-loop-sorts
invariant-loop-sorts l = has rank l.seen l.sorts ≡ has rank l.seen l.initial.sorts

abbrev pub decreases-loop-sorts : goal.decreases-loop-sorts
decreases-loop-sorts l = length l.sorts
