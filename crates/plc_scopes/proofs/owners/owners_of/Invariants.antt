use Rattle.std.proofs.Common.{◌≡◌, ℕ, List, length, take}
use Rattle.plc_names.specs.Lookup.{owners_in}
use Rattle.plc_scopes.specs.Lists.{owned}
use Rattle.plc_scopes.proofs.owners.owners_of.Given as goal

abbrev pub invariant-loop-i : goal.invariant-loop-i
invariant-loop-i l = record {
  even : length l.owners.names ≡ length l.owners.lists.items;
  lists : (name : List ℕ) → owned l.owners.names l.owners.lists.items name ≡ owners_in (take l.i l.all) name;
}
