-- Names that a list repeats, as refusals, and what one more name of a list adds.
use Rattle.std.specs.Prelude.{◌≡◌, ℕ, not, ◌||◌, List, take, Option}
use Rattle.std.specs.List.{flat_map, list_any, enumerate_from}
use Rattle.std.specs.Str.{bytes_eq}
use Rattle.plc_base.specs.Least.{unless, Meets}
use Rattle.plc_base.specs.declared.refusal.Refusal.{Refusal}
use Rattle.plc_base.specs.declared.refusal.Rule.{Rule}
use Rattle.plc_tree.specs.declared.tree.Id.{Id}
use Rattle.plc_names.specs.Rules.{is_named}

-- a name breaks the rule where an earlier one of the list is equal to it
abbrev pub repeated_fault : Rule → List Id → ℕ × Id → List Refusal
repeated_fault rule all (k, n) = unless (not (list_any (is_named n.name) (take k all))) rule n.at

abbrev pub repeated_faults : Rule → List Id → List Refusal
repeated_faults rule all = flat_map (repeated_fault rule all) (enumerate_from 0 all)

-- one more name behind these words: it breaks the rule where it is one of them, and is one of them then
pub record Adds (rule : Rule) (n : Id) (before now : List (List ℕ)) (met meets : Option Refusal) : Type 0 where
  pub least : Meets (unless (not (list_any (bytes_eq n.name) before)) rule n.at) met meets
  pub words : (name : List ℕ) → list_any (bytes_eq name) now ≡ (list_any (bytes_eq name) before || bytes_eq name n.name)
