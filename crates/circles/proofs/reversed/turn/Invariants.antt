use Rattle.std.proofs.Common.{◌≡◌, ◌<◌, ℕ, length, take}
use Rattle.std.specs.Prelude.{◌&&◌, ◌||◌, nat_eq}
use Rattle.std.specs.List.{list_any}
use Rattle.circles.specs.Needs.{needs}
use Rattle.circles.proofs.reversed.turn.Given as goal

abbrev pub invariant-loop-other : goal.invariant-loop-other
invariant-loop-other l = record {
  sized : length l.reversed ≡ length l.initial.reversed;
  turned : (b a : ℕ) → b < length l.initial.reversed → needs l.reversed b a ≡ (needs l.initial.reversed b a || (nat_eq a l.node && list_any (nat_eq b) (take l.other-index l.row)));
}
