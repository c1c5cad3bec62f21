use Rattle.std.proofs.Common.{◌≡◌, ◌<◌, ℕ, length, slice_index}
use Rattle.circles.specs.Walk.{Goes, new}
use Rattle.circles.proofs.walk.Walk.of.Given as goal

abbrev pub invariant-loop-node : goal.invariant-loop-node
invariant-loop-node l = record { goes : Goes l.needs l.walk; rests : length l.walk.stack.items ≡ 0; met : (a : ℕ) → a < l.node → slice_index l.walk.place.items a ≡ new → ⊥ }
