use Rattle.std.proofs.Common.{◌≡◌, length, map}
use Rattle.plc_tokens.specs.Sorts as spec
use Rattle.plc_tokens.proofs.reserved.find.Given as goal

abbrev pub invariant-loop-table : goal.invariant-loop-table
invariant-loop-table l = spec.find (map (λ r. (r.0.now, r.1)) l.table) l.word ≡ spec.find (map (λ r. (r.0.now, r.1)) l.initial.table) l.word

abbrev pub decreases-loop-table : goal.decreases-loop-table
decreases-loop-table l = length l.table
