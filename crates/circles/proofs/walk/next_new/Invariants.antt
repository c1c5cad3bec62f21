use Rattle.std.proofs.Common.{◌≡◌, ℕ, ◌<◌, ◌≤◌, length, slice_index}
use Rattle.circles.specs.Walk.{new}
use Rattle.circles.proofs.walk.next_new.Given as goal

abbrev pub invariant-loop-i : goal.invariant-loop-i
invariant-loop-i l = (j : ℕ) → l.from ≤ j → j < l.i → slice_index l.row j < length l.place → slice_index l.place (slice_index l.row j) ≡ new → ⊥
