use Rattle.std.proofs.Common.{◌≡◌, ℕ, List, take}
use Rattle.std.specs.List.{position_from}
use Rattle.plc_names.specs.Lookup.{is_global_named}
use Rattle.plc_scopes.specs.Firsts.{first_of}
use Rattle.plc_scopes.proofs.spaces.globals_of.Given as goal

abbrev pub invariant-loop-i : goal.invariant-loop-i
invariant-loop-i l = (name : List ℕ) → first_of l.globals name ≡ position_from (is_global_named name) 0 (take l.i l.declared)
