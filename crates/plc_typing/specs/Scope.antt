-- The variables of a program organisation unit by their names, and their types.
use Rattle.std.specs.Prelude.{◌≡◌, ℕ, Bool, nat_eq, List, [], ◌∷◌, map, Option, Some, None, codes, if◌then◌else◌}
use Rattle.std.specs.List.{flat_map}
use Rattle.std.specs.Map.{lookup}
use Rattle.std.specs.Option.{option_or}
use Rattle.std.specs.Str.{bytes_eq}
use Rattle.plc_base.specs.declared.elem.Elem.{Elem}
use Rattle.plc_base.specs.declared.elem.Elem.TheVariants.{Sint, Int, Dint, Lint, Usint, Uint, Udint, Ulint, Byte, Word, Dword, Lword, Bool as Boolean, Time}
use Rattle.plc_tree.specs.declared.tree.Id.{Id}
use Rattle.plc_tree.specs.declared.tree.Section.{Section}
use Rattle.plc_tree.specs.declared.tree.Decl.{Decl}
use Rattle.plc_tree.specs.declared.tree.Spec.{Spec}
use Rattle.plc_tree.specs.declared.tree.Spec.TheVariants.{Named, Sub, Array}

-- ---- types

-- the order in which types are taken
abbrev pub order : Elem → ℕ
order Sint = 0
order Int = 1
order Dint = 2
order Lint = 3
order Usint = 4
order Uint = 5
order Udint = 6
order Ulint = 7
order Byte = 8
order Word = 9
order Dword = 10
order Lword = 11
order Boolean = 12
order Time = 13

abbrev pub is_elem : Elem → Elem → Bool
is_elem a b = nat_eq (order a) (order b)

-- the types that are named yet: INT, else BOOL
abbrev pub elem_named : List ℕ → Elem
elem_named name = if bytes_eq name (codes "INT") then Int else Boolean

abbrev pub elem_of_spec : Spec → Elem
elem_of_spec (Named n) = elem_named n.name
elem_of_spec (Sub base bounds) = Boolean
elem_of_spec (Array bounds element at bracket) = Boolean

-- ---- variables

-- a name and the type of what it stands for
abbrev pub Variable : Type 0
Variable = List ℕ × Elem

abbrev pub decl_variables : Decl → List Variable
decl_variables d = map (λ (n : Id). (n.name, elem_of_spec d.spec)) d.names

abbrev pub section_variables : Section → List Variable
section_variables s = flat_map decl_variables s.decls

abbrev pub variables : List Section → List Variable
variables ss = flat_map section_variables ss

-- what a name is of, where a variable has it; of two that have it the later one counts
abbrev pub type_in : List Variable → List ℕ → Option Elem
type_in [] name = None
type_in (v ∷ vs) name = option_or (type_in vs name) (if bytes_eq v.0 name then Some v.1 else None)

-- what the names of a scope are of
abbrev pub Types : Type 0
Types = List ℕ → Option Elem

-- what the entries of a map are of: each name stands there once
abbrev pub types_of : List Variable → Types
types_of entries name = lookup (bytes_eq name) entries

-- the entries of a map after these variables were put into it
abbrev pub IsJoined : List Variable → List Variable → List Variable → Type 0
IsJoined old vs new = (name : List ℕ) → types_of new name ≡ option_or (type_in vs name) (types_of old name)
