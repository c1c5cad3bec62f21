-- What the name of a type stands for, what a type is made of, and which types are equal (IEC 61131-3, 2.3).
use Rattle.std.specs.Prelude.{ℕ, zero, suc, ◌+◌, nat_eq, nat_lt, Bool, false, not, ◌&&◌, ◌||◌, List, [], ◌∷◌, length, ℤ, Option, Some, None, codes, if◌then◌else◌}
use Rattle.std.specs.Cmp.Lexicographic.{pointwise}
use Rattle.std.specs.List.{slice_get}
use Rattle.std.specs.Map.{lookup}
use Rattle.std.specs.Option.{option_or, option_and_then, option_map, option_map_or}
use Rattle.std.specs.Ordering.{int_eq}
use Rattle.std.specs.Str.{bytes_eq}
use Rattle.plc_base.specs.declared.elem.Elem.{Elem}
use Rattle.plc_base.specs.declared.elem.Elem.TheVariants.{Sint, Int, Dint, Lint, Usint, Uint, Udint, Ulint, Byte, Word, Dword, Lword, Bool as Boolean, Time}
use Rattle.plc_tree.specs.declared.tree.Unit.{Unit as Source}
use Rattle.plc_names.specs.declared.types.TypeId.{TypeId}
use Rattle.plc_names.specs.declared.types.TypeId.TheVariants as type_id
use Rattle.plc_names.specs.declared.types.Standing.{Standing}
use Rattle.plc_names.specs.declared.types.Standing.TheVariants as standing
use Rattle.plc_names.specs.declared.types.Field.{Field}
use Rattle.plc_names.specs.declared.types.Shape.{Shape}
use Rattle.plc_names.specs.declared.types.Shape.TheVariants as shape
use Rattle.plc_names.specs.declared.names.NameKind.{NameKind}
use Rattle.plc_names.specs.declared.names.NameKind.TheVariants as kind
use Rattle.plc_names.specs.declared.declarations.Declaration.{Declaration}
use Rattle.plc_names.specs.declared.declarations.Written.{Written}
use Rattle.plc_names.specs.declared.declarations.Written.TheVariants as written
use Rattle.plc_names.specs.declared.declarations.Part.{Part}
use Rattle.plc_names.specs.declared.declarations.PartType.{PartType}
use Rattle.plc_names.specs.declared.declarations.PartType.TheVariants as part
use Rattle.plc_names.specs.declared.declarations.Made.{Made}
use Rattle.plc_names.specs.declared.declarations.Made.TheVariants as made
use Rattle.plc_names.specs.Declarations.{all_declared, all_made, scope_count}
use Rattle.plc_names.specs.Lookup.{found_in}
use Rattle.plc_names.specs.Needs.{rows, graph, is_on_circle}
use Rattle.plc_standard.specs.Standard.{block_number}

-- ---- the elementary types

abbrev pub elementary : List (List ℕ × Elem)
elementary =
    (codes "SINT", Sint) ∷ (codes "INT", Int) ∷ (codes "DINT", Dint) ∷ (codes "LINT", Lint)
    ∷ (codes "USINT", Usint) ∷ (codes "UINT", Uint) ∷ (codes "UDINT", Udint) ∷ (codes "ULINT", Ulint)
    ∷ (codes "BYTE", Byte) ∷ (codes "WORD", Word) ∷ (codes "DWORD", Dword) ∷ (codes "LWORD", Lword)
    ∷ (codes "BOOL", Boolean) ∷ (codes "TIME", Time) ∷ []

unfoldable pub elem_named : List ℕ → Option Elem
elem_named name = lookup (bytes_eq name) elementary

-- the place in the order in which typing takes them
abbrev pub elem_rank : Elem → ℕ
elem_rank Sint = 0
elem_rank Int = 1
elem_rank Dint = 2
elem_rank Lint = 3
elem_rank Usint = 4
elem_rank Uint = 5
elem_rank Udint = 6
elem_rank Ulint = 7
elem_rank Byte = 8
elem_rank Word = 9
elem_rank Dword = 10
elem_rank Lword = 11
elem_rank Boolean = 12
elem_rank Time = 13

abbrev pub same_elem : Elem → Elem → Bool
same_elem a b = nat_eq (elem_rank a) (elem_rank b)

-- ---- what the name of a type stands for

-- the type of a name, where `named` tells what the name of a type stands for
abbrev pub standing_written : (named : List ℕ → Option Standing) → Written → Option Standing
standing_written named written.Untyped = None
standing_written named (written.Itself t) = Some (standing.Type t)
standing_written named (written.ByName name) = named name

-- a type or a block that is declared; nothing else is a type
abbrev pub standing_kind : (named : List ℕ → Option Standing) → NameKind → Written → Option Standing
standing_kind named kind.Named w = standing_written named w
standing_kind named kind.Block w = standing_written named w
standing_kind named k w = None

-- what a declaration that a name has stands for, where it has one
abbrev pub standing_found : (is_on_circle : List ℕ → Bool) → (named : List ℕ → Option Standing) → List ℕ → Option Declaration → Option Standing
standing_found is_on_circle named name None = option_map standing.Block (block_number name)
standing_found is_on_circle named name (Some d) = if is_on_circle name then None else standing_kind named d.kind d.ty

abbrev pub of_elem : Elem → Standing
of_elem e = standing.Type (type_id.Elem e)

-- A name for another type stands for what that stands for, along at most n names. A type on a circle, and so a name for
-- one, stands for nothing.
unfoldable pub standing_in : ℕ → List Declaration → (is_on_circle : List ℕ → Bool) → List ℕ → Option Standing
standing_in zero ds is_on_circle name = None
standing_in (suc n) ds is_on_circle name = option_or (option_map of_elem (elem_named name)) (standing_found is_on_circle (standing_in n ds is_on_circle) name (found_in ds 0 name))

abbrev pub standing_of : List Declaration → (graph : List (List ℕ)) → List ℕ → Option Standing
standing_of ds graph name = standing_in (length ds + 1) ds (is_on_circle ds graph) name

-- all that is declared and made in the library and a source, and what the name of a type stands for
pub record World : Type 0 where
  pub declared : List Declaration
  pub made : List Made
  pub standing : List ℕ → Option Standing
  -- how many scopes there are
  pub scopes : ℕ

abbrev pub world : (library u : Source) → World
world library u = record {
  declared = all_declared library u;
  made = all_made library u;
  standing = standing_of (all_declared library u) (graph (all_declared library u) (rows library u));
  scopes = scope_count library u;
}

abbrev pub type_standing : Standing → Option TypeId
type_standing (standing.Type t) = Some t
type_standing (standing.Block k) = None

abbrev pub type_named : World → List ℕ → Option TypeId
type_named w name = option_and_then type_standing (w.standing name)

abbrev pub type_written : World → Written → Option TypeId
type_written w x = option_and_then type_standing (standing_written w.standing x)

-- ---- what a type is made of

-- one field in front of others, where each has a type
abbrev pub field_before : List ℕ → Option TypeId → Option (List Field) → Option (List Field)
field_before name (Some t) (Some fields) = Some (record { name = name; ty = t } ∷ fields)
field_before name (Some t) None = None
field_before name None fields = None

-- the type of a field, where the next type that is made has this number, and how many types it makes
abbrev pub type_of_part : World → (next : ℕ) → PartType → Option TypeId
type_of_part w next (part.ByName name) = type_named w name
type_of_part w next part.Sub = Some (type_id.Sub next)
type_of_part w next part.Array = Some (type_id.Array next)

abbrev pub makes : PartType → ℕ
makes (part.ByName name) = 0
makes part.Sub = 1
makes part.Array = 1

abbrev pub fields : World → (next : ℕ) → List Part → Option (List Field)
fields w next [] = Some []
fields w next (p ∷ ps) = field_before p.name (type_of_part w next p.ty) (fields w (next + makes p.ty) ps)

abbrev pub shape_made : World → (number : ℕ) → Made → Option Shape
shape_made w number (made.Enum values) = Some (shape.Enum values)
shape_made w number (made.Struct parts) = option_map shape.Struct (fields w (number + 1) parts)
shape_made w number (made.Sub base low high) = option_map (λ e. shape.Sub e low high) (elem_named base)
shape_made w number (made.Array named bounds element) = option_map (shape.Array bounds) (type_named w element)

-- of each type that is made, by its number
abbrev pub shape_numbered : World → ℕ × Made → Option Shape
shape_numbered w (number, m) = shape_made w number m

abbrev pub shape_number : World → ℕ → Option Shape
shape_number w number = option_and_then (shape_made w number) (slice_get w.made number)

-- a type has a shape where each type that it is made of is one
abbrev pub shape_of : World → TypeId → Option Shape
shape_of w (type_id.Elem e) = Some (shape.Elem e)
shape_of w (type_id.Enum k) = shape_number w k
shape_of w (type_id.Sub k) = shape_number w k
shape_of w (type_id.Array k) = shape_number w k
shape_of w (type_id.Struct k) = shape_number w k
shape_of w (type_id.Block scope) = if nat_lt scope w.scopes then Some (shape.Block scope) else None

-- ---- equal types

-- two subranges of one base type with the same limits
abbrev pub same_limits : Option Shape → Option Shape → Bool
same_limits (Some (shape.Sub a l h)) (Some (shape.Sub b m i)) = same_elem a b && (int_eq l m && int_eq h i)
same_limits a b = false

-- one type, or equal subranges
abbrev pub same_plain : World → TypeId → TypeId → Bool
same_plain w (type_id.Elem a) (type_id.Elem b) = same_elem a b
same_plain w (type_id.Enum a) (type_id.Enum b) = nat_eq a b
same_plain w (type_id.Sub a) (type_id.Sub b) = nat_eq a b || same_limits (shape_number w a) (shape_number w b)
same_plain w (type_id.Array a) (type_id.Array b) = nat_eq a b
same_plain w (type_id.Struct a) (type_id.Struct b) = nat_eq a b
same_plain w (type_id.Block a) (type_id.Block b) = nat_eq a b
same_plain w a b = false

abbrev pub same_range : ℤ × ℤ → ℤ × ℤ → Bool
same_range (l, h) (m, i) = int_eq l m && int_eq h i

-- two arrays of the same bounds and of equal elements
abbrev pub same_arrays : World → Option Shape → Option Shape → Bool
same_arrays w (Some (shape.Array bs t)) (Some (shape.Array cs u)) = pointwise same_range bs cs && same_plain w t u
same_arrays w a b = false

abbrev pub is_unnamed_array : Made → Bool
is_unnamed_array (made.Array named bounds element) = not named
is_unnamed_array (made.Enum values) = false
is_unnamed_array (made.Struct parts) = false
is_unnamed_array (made.Sub base low high) = false

abbrev pub is_unnamed : World → ℕ → Bool
is_unnamed w number = option_map_or is_unnamed_array (slice_get w.made number) false

-- where types are compared as arrays may be that have no name: those of the same bounds and equal elements are equal too
abbrev pub same_unnamed : World → TypeId → TypeId → Bool
same_unnamed w (type_id.Array a) (type_id.Array b) = is_unnamed w a && (is_unnamed w b && same_arrays w (shape_number w a) (shape_number w b))
same_unnamed w a b = false

abbrev pub same : (relaxed : Bool) → World → TypeId → TypeId → Bool
same relaxed w a b = same_plain w a b || (relaxed && same_unnamed w a b)

abbrev pub same_standing : (relaxed : Bool) → World → Standing → Standing → Bool
same_standing relaxed w (standing.Type a) (standing.Type b) = same relaxed w a b
same_standing relaxed w (standing.Block a) (standing.Block b) = nat_eq a b
same_standing relaxed w (standing.Type a) (standing.Block b) = false
same_standing relaxed w (standing.Block a) (standing.Type b) = false
