use Rattle.std.proofs.Common.{◌≡◌, ℕ, [], length}
use Rattle.plc_scopes.specs.Lists.{list_at}
use Rattle.plc_scopes.proofs.members.no_members.Given as goal

abbrev pub invariant-loop : goal.invariant-loop
invariant-loop l = record { count : length l.lists.items ≡ l.counter; none : (k : ℕ) → list_at l.lists.items k ≡ [] }
