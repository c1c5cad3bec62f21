use Rattle.std.proofs.Common.{◌≡◌, ℕ, length, false}
use Rattle.circles.specs.Needs.{needs}
use Rattle.circles.proofs.reversed.blank.Given as goal

abbrev pub invariant-loop : goal.invariant-loop
invariant-loop l = record { sized : length l.blank ≡ l.counter; nothing : (b a : ℕ) → needs l.blank b a ≡ false }
