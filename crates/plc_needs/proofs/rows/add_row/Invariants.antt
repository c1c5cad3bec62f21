use Rattle.std.proofs.Common.{◌≡◌, [], ◌∷◌, ◌++◌, take}
use Rattle.plc_needs.proofs.rows.add_row.Given as goal

abbrev pub invariant-loop-other : goal.invariant-loop-other
invariant-loop-other l = l.needs ≡ l.fn.needs ++ take l.other-index l.row ∷ []
