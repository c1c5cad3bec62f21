use Rattle.std.proofs.Common.{◌≡◌, ◌<◌, ℕ, length, take}
use Rattle.plc_names.specs.Lookup.{members_in}
use Rattle.plc_scopes.specs.Lists.{list_at}
use Rattle.plc_scopes.proofs.members.members_of.Given as goal

abbrev pub invariant-loop-i : goal.invariant-loop-i
invariant-loop-i l = record {
  count : length l.members.items ≡ l.count;
  lists : (scope : ℕ) → scope < l.count → list_at l.members.items scope ≡ members_in (take l.i l.declared) scope;
}
