-- The names that a program organisation unit declares itself, as a list.
use Rattle.std.specs.Prelude.{◌≡◌, ℕ, ◌||◌, List}
use Rattle.std.specs.List.{list_any}
use Rattle.std.specs.Str.{bytes_eq}
use Rattle.plc_names.specs.Needs.{IsOwn}

-- whether a name is one of a list
abbrev pub has : List (List ℕ) → IsOwn
has names name = list_any (bytes_eq name) names

-- a list has the same names as before, and these
abbrev pub Joins : List (List ℕ) → IsOwn → List (List ℕ) → Type 0
Joins before more now = (name : List ℕ) → has now name ≡ (has before name || more name)
