use Rattle.std.proofs.Common.{◌≡◌, ◌<◌, ℕ, length, false}
use Rattle.std.specs.Prelude.{◌&&◌, nat_eq, nat_lt, slice_index, slice_index_or}
use Rattle.std.specs.List.{list_any}
use Rattle.circles.specs.Needs.{needs_of}
use Rattle.circles.proofs.circles.circular.Given as goal

abbrev pub invariant-loop-node : goal.invariant-loop-node
invariant-loop-node l = record {
  sized : length l.flags.items ≡ l.node;
  each : (a : ℕ) → a < l.node → slice_index_or l.flags.items a false ≡ list_any (λ b. nat_lt b (length l.under) && nat_eq (slice_index l.under b) (slice_index l.under a)) (needs_of l.needs a);
}
