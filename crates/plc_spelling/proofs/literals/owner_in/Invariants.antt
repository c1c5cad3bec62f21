use Rattle.std.proofs.Common.{◌≡◌, drop, map}
use Rattle.plc_spelling.specs.Literals as spec
use Rattle.plc_spelling.specs.Literals.{row}
use Rattle.plc_spelling.proofs.literals.owner_in.Given as goal

abbrev pub invariant-loop-name : goal.invariant-loop-name
invariant-loop-name l = spec.owner_in (map (λ r. row r.0.now r.1) l.table) l.word ≡ spec.owner_in (map (λ r. row r.0.now r.1) (drop l.name-index l.table)) l.word
