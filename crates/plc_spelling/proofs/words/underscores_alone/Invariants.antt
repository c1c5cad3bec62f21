use Rattle.std.proofs.Common.{◌≡◌, drop}
use Rattle.plc_spelling.specs.Words as spec
use Rattle.plc_spelling.proofs.words.underscores_alone.Given as goal

abbrev pub invariant-loop-i : goal.invariant-loop-i
invariant-loop-i l = spec.underscores_alone l.run ≡ spec.underscores_alone (drop l.i l.run)
