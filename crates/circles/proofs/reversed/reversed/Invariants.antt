use Rattle.std.proofs.Common.{◌≡◌, ◌<◌, ℕ, length}
use Rattle.std.specs.Prelude.{◌&&◌, nat_lt}
use Rattle.circles.specs.Needs.{needs}
use Rattle.circles.proofs.reversed.reversed.Given as goal

abbrev pub invariant-loop-node : goal.invariant-loop-node
invariant-loop-node l = record {
  sized : length l.reversed ≡ length l.needs;
  turned : (b a : ℕ) → b < length l.needs → needs l.reversed b a ≡ (nat_lt a l.node && needs l.needs a b);
}
