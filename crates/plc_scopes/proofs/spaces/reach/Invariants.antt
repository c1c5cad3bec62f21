use Rattle.std.proofs.Common.{◌≡◌, ◌+◌, ◌-◌, ℕ, length}
use Rattle.plc_scopes.specs.Firsts.{space_at}
use Rattle.plc_scopes.proofs.spaces.reach.Given as goal

abbrev pub invariant-reached : goal.invariant-reached
invariant-reached l = (s : ℕ) → space_at l.spaces.items s ≡ space_at l.initial.spaces.items s

abbrev pub decreases-reached : goal.decreases-reached
decreases-reached l = l.scope + 1 - length l.spaces.items
