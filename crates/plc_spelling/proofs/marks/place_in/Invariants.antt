use Rattle.std.proofs.Common.{◌≡◌, ◌+◌, length, map}
use Rattle.plc_spelling.specs.Marks as spec
use Rattle.plc_spelling.proofs.marks.place_in.Given as goal

abbrev pub invariant-loop-table : goal.invariant-loop-table
invariant-loop-table l =
    (l.at + spec.place_in (map (λ r. r.now) l.table) l.bytes ≡ l.initial.at + spec.place_in (map (λ r. r.now) l.initial.table) l.bytes)
    × (l.at + length l.table ≡ l.initial.at + length l.initial.table)

abbrev pub decreases-loop-table : goal.decreases-loop-table
decreases-loop-table l = length l.table
