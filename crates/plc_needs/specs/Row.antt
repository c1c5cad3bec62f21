-- How the numbers that one declaration needs are gathered.
use Rattle.std.specs.Prelude.{◌≡◌, ℕ, List, ◌++◌}
use Rattle.plc_tree.specs.declared.tree.Id.{Id}
use Rattle.plc_names.specs.declared.declarations.Declaration.{Declaration}
use Rattle.plc_names.specs.Needs.{numbers_needed}

-- those of these names were put behind the ones before
abbrev pub Adds : List Declaration → List Id → List ℕ → List ℕ → Type 0
Adds ds names before now = now ≡ before ++ numbers_needed ds names
