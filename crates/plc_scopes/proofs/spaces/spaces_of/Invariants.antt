use Rattle.std.proofs.Common.{◌≡◌, ℕ, List, take}
use Rattle.plc_names.specs.Lookup.{number_in}
use Rattle.plc_scopes.specs.Firsts.{first_of, space_at}
use Rattle.plc_scopes.proofs.spaces.spaces_of.Given as goal

abbrev pub invariant-loop-i : goal.invariant-loop-i
invariant-loop-i l = (scope : ℕ) (name : List ℕ) → first_of (space_at l.spaces.items scope) name ≡ number_in (take l.i l.declared) scope name
