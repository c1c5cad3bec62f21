-- What a name stands for in a scope: the first declaration of it there. Values of enumerations are passed over, since a
-- name of theirs is told by its enumerations.
use Rattle.std.specs.Prelude.{ℕ, nat_eq, Bool, true, false, not, ◌&&◌, List, map, filter, Option}
use Rattle.std.specs.List.{list_any, enumerate_from, position_from, slice_get}
use Rattle.std.specs.Option.{option_and_then}
use Rattle.std.specs.Str.{bytes_eq}
use Rattle.plc_names.specs.declared.types.TypeId.{TypeId}
use Rattle.plc_names.specs.declared.types.TypeId.TheVariants as type_id
use Rattle.plc_names.specs.declared.names.NameKind.{NameKind}
use Rattle.plc_names.specs.declared.names.NameKind.TheVariants as kind
use Rattle.plc_names.specs.declared.declarations.Declaration.{Declaration}
use Rattle.plc_names.specs.declared.declarations.Made.{Made}
use Rattle.plc_names.specs.declared.declarations.Made.TheVariants as made

abbrev pub is_value : NameKind → Bool
is_value kind.Value = true
is_value k = false

abbrev pub is_global : NameKind → Bool
is_global kind.Global = true
is_global k = false

abbrev pub is_external : NameKind → Bool
is_external kind.External = true
is_external k = false

-- whether a declaration is one of this name in this scope
abbrev pub is_there : (scope : ℕ) → (name : List ℕ) → Declaration → Bool
is_there scope name d = nat_eq d.scope scope && (not (is_value d.kind) && bytes_eq name d.name)

-- the number of the declaration
abbrev pub number_in : List Declaration → (scope : ℕ) → (name : List ℕ) → Option ℕ
number_in ds scope name = position_from (is_there scope name) 0 ds

-- and the declaration
abbrev pub found_in : List Declaration → (scope : ℕ) → (name : List ℕ) → Option Declaration
found_in ds scope name = option_and_then (slice_get ds) (number_in ds scope name)

-- a global of the configuration or of one of its resources
abbrev pub is_global_named : (name : List ℕ) → Declaration → Bool
is_global_named name d = is_global d.kind && bytes_eq name d.name

abbrev pub global_in : List Declaration → (name : List ℕ) → Option Declaration
global_in ds name = option_and_then (slice_get ds) (position_from (is_global_named name) 0 ds)

-- the numbers of all that is declared in a scope
abbrev pub members_in : List Declaration → (scope : ℕ) → List ℕ
members_in ds scope = map (λ (p : ℕ × Declaration). p.0) (filter (λ (p : ℕ × Declaration). nat_eq p.1.scope scope) (enumerate_from 0 ds))

-- the enumerations that have a value of this name, in text order
abbrev pub has_value : (name : List ℕ) → Made → Bool
has_value name (made.Enum values) = list_any (bytes_eq name) values
has_value name (made.Struct parts) = false
has_value name (made.Sub base low high) = false
has_value name (made.Array named bounds element) = false

abbrev pub owners_in : List Made → (name : List ℕ) → List TypeId
owners_in all name = map (λ (p : ℕ × Made). type_id.Enum p.0) (filter (λ (p : ℕ × Made). has_value name p.1) (enumerate_from 0 all))
