-- The rules on declarations that a source can break, each by the places where it is broken (IEC 61131-3, 2.4 and 2.7, and
-- rules of this project's own). Of the library nothing is asked.
use Rattle.std.specs.Prelude.{ℕ, nat_eq, nat_lt, Bool, true, false, not, ◌&&◌, ◌||◌, List, [], ◌∷◌, ◌++◌, map, take, drop, Option, Some, None, if◌then◌else◌}
use Rattle.std.specs.List.{flat_map, list_any, enumerate_from, filter_map}
use Rattle.std.specs.Option.{option_map_or}
use Rattle.std.specs.Str.{bytes_eq}
use Rattle.plc_base.specs.declared.refusal.Place.{Place}
use Rattle.plc_base.specs.declared.refusal.Refusal.{Refusal}
use Rattle.plc_base.specs.declared.refusal.Rule.{Rule}
use Rattle.plc_base.specs.declared.refusal.Rule.TheVariants.{N1, N2, N3, N4, N6}
use Rattle.plc_base.specs.declared.elem.Elem.{Elem}
use Rattle.plc_tree.specs.declared.tree.Id.{Id}
use Rattle.plc_tree.specs.declared.tree.Unit.{Unit as Source}
use Rattle.plc_tree.specs.declared.tree.TypeDef.{TypeDef}
use Rattle.plc_tree.specs.declared.tree.TypeWhat.{TypeWhat}
use Rattle.plc_tree.specs.declared.tree.TypeWhat.TheVariants as what
use Rattle.plc_tree.specs.declared.tree.Member.{Member}
use Rattle.plc_tree.specs.declared.tree.Config.{Config}
use Rattle.plc_names.specs.declared.types.TypeId.{TypeId}
use Rattle.plc_names.specs.declared.types.TypeId.TheVariants as type_id
use Rattle.plc_names.specs.declared.types.Standing.{Standing}
use Rattle.plc_names.specs.declared.types.Standing.TheVariants as standing
use Rattle.plc_names.specs.declared.names.NameKind.{NameKind}
use Rattle.plc_names.specs.declared.names.NameKind.TheVariants as kind
use Rattle.plc_names.specs.declared.declarations.Declaration.{Declaration}
use Rattle.plc_names.specs.Declarations.{config_scope}
use Rattle.plc_names.specs.Items.{first_config}
use Rattle.plc_names.specs.Lookup.{is_value, is_global, is_external, is_there, is_global_named, found_in, global_in}
use Rattle.plc_names.specs.Types.{World, world, standing_written, same_standing, elem_named}
use Rattle.plc_names.specs.declared.wants.Want.{Want}
use Rattle.plc_names.specs.declared.wants.Want.TheVariants.{AType, ATypeOrBlock, ALeafType, AnEnum, AProgram}
use Rattle.plc_names.specs.Uses.{Use, uses, TaskUse, config_tasks, pou_brackets, config_names}
use Rattle.plc_standard.specs.Files.{is_file}
use Rattle.plc_standard.specs.Standard.{is_function, is_block}

-- the place, where it counts
abbrev pub place_if : Bool → Place → List Place
place_if true at = at ∷ []
place_if false at = []

-- ---- N1: a name is declared twice

-- of some names those that an earlier one is equal to
abbrev pub is_named : List ℕ → Id → Bool
is_named name n = bytes_eq name n.name

abbrev pub repeated_one : List Id → ℕ × Id → List Place
repeated_one all (k, n) = place_if (list_any (is_named n.name) (take k all)) n.at

abbrev pub repeated : List Id → List Place
repeated all = flat_map (repeated_one all) (enumerate_from 0 all)

-- whether another declaration of its scope has the name of this one, or another global where it is one itself
abbrev pub clash : Declaration → Declaration → Bool
clash d e = is_there d.scope d.name e || (is_global d.kind && is_global_named d.name e)

-- the standard functions and blocks are of the scope of the source
abbrev pub is_standard_there : Declaration → Bool
is_standard_there d = nat_eq d.scope 0 && (is_function d.name || is_block d.name)

-- that a value is listed twice is a rule of its own
abbrev pub declared_twice : List Declaration → ℕ × Declaration → List Place
declared_twice all (k, d) = place_if (d.own && (not (is_value d.kind) && (is_standard_there d || list_any (clash d) (take k all)))) d.at

-- the fields of a structure are a scope of their own
abbrev pub field_name : Member → Id
field_name m = record { name = m.name; at = m.at }

abbrev pub fields_twice : TypeWhat → List Place
fields_twice (what.Struct members) = repeated (map field_name members)
fields_twice (what.Enum values start) = []
fields_twice (what.Spec w start) = []

abbrev pub definition_fields_twice : TypeDef → List Place
definition_fields_twice t = fields_twice t.what

-- a second configuration
abbrev pub later_configs : Source → List Place
later_configs u = map (λ (c : Config). c.at) (drop 1 u.configs)

abbrev pub twice : World → Source → List Place
twice w u = flat_map (declared_twice w.declared) (enumerate_from 0 w.declared) ++ (flat_map definition_fields_twice u.types ++ later_configs u)

-- ---- N2 to N4: names that are used

-- what a name of the scope of the source stands for
pub data Found : Type 0 where
  Nothing : Found
  Elementary : Found
  StandardFunction : Found
  StandardBlock : Found
  Declares : Declaration → Found

abbrev pub found_standard : List ℕ → Found
found_standard name = if is_function name then StandardFunction else if is_block name then StandardBlock else Nothing

abbrev pub found_declared : Option Declaration → List ℕ → Found
found_declared None name = found_standard name
found_declared (Some d) name = Declares d

abbrev pub found_elem : Option Elem → (Option Declaration) → List ℕ → Found
found_elem (Some e) d name = Elementary
found_elem None d name = found_declared d name

abbrev pub found : World → List ℕ → Found
found w name = found_elem (elem_named name) (found_in w.declared 0 name) name

-- N2: no declaration has the name
abbrev pub is_nothing : Found → Bool
is_nothing Nothing = true
is_nothing f = false

abbrev pub unknown_use : World → Use → List Place
unknown_use w x = place_if (is_nothing (found w x.name)) x.at

-- N4: it is declared later in the source
abbrev pub is_later : Place → Found → Bool
is_later at (Declares d) = d.own && nat_lt at.token d.at.token
is_later at f = false

abbrev pub early_use : World → Use → List Place
early_use w x = place_if (is_later x.at (found w x.name)) x.at

-- N3: it is of another kind than its place needs

-- a type without parts
abbrev pub is_leaf : TypeId → Bool
is_leaf (type_id.Elem e) = true
is_leaf (type_id.Enum k) = true
is_leaf (type_id.Sub k) = true
is_leaf (type_id.Array k) = false
is_leaf (type_id.Struct k) = false
is_leaf (type_id.Block scope) = false

abbrev pub is_enum : TypeId → Bool
is_enum (type_id.Enum k) = true
is_enum t = false

-- what stands for nothing breaks no rule by its kind
abbrev pub standing_is : (TypeId → Bool) → Option Standing → Bool
standing_is test None = true
standing_is test (Some (standing.Type t)) = test t
standing_is test (Some (standing.Block k)) = false

abbrev pub type_fits : Want → Option Standing → Bool
type_fits AType t = true
type_fits ATypeOrBlock t = true
type_fits ALeafType t = standing_is is_leaf t
type_fits AnEnum t = standing_is is_enum t
type_fits AProgram t = false

-- whether an elementary type, a block or a program can stand there
abbrev pub takes_elementary : Want → Bool
takes_elementary AType = true
takes_elementary ATypeOrBlock = true
takes_elementary ALeafType = true
takes_elementary AnEnum = false
takes_elementary AProgram = false

abbrev pub takes_block : Want → Bool
takes_block ATypeOrBlock = true
takes_block want = false

abbrev pub takes_program : Want → Bool
takes_program AProgram = true
takes_program want = false

abbrev pub kind_fits : Want → NameKind → Option Standing → Bool
kind_fits want kind.Named t = type_fits want t
kind_fits want kind.Block t = takes_block want
kind_fits want kind.Prog t = takes_program want
kind_fits want k t = false

-- a standard name, or one of nothing, which breaks another rule
abbrev pub standard_fits : Want → List ℕ → Bool
standard_fits want name = if is_function name then false else (not (is_block name) || takes_block want)

abbrev pub fits : World → Want → List ℕ → Found → Bool
fits w want name Nothing = true
fits w want name Elementary = takes_elementary want
fits w want name StandardFunction = false
fits w want name StandardBlock = takes_block want
fits w want name (Declares d) = kind_fits want d.kind (w.standing name)

abbrev pub wrong_use : World → Use → List Place
wrong_use w x = place_if (not (fits w x.want x.name (found w x.name))) x.at

-- a name behind WITH, looked up in its resource alone
abbrev pub is_task : NameKind → Bool
is_task kind.Task = true
is_task k = false

abbrev pub unknown_task : World → TaskUse → List Place
unknown_task w x = place_if (option_map_or (λ d. false) (found_in w.declared x.scope x.task.name) true) x.task.at

abbrev pub wrong_task : World → TaskUse → List Place
wrong_task w x = place_if (option_map_or (λ (d : Declaration). not (is_task d.kind)) (found_in w.declared x.scope x.task.name) false) x.task.at

-- a VAR_EXTERNAL is looked up among the globals alone, and is of an equal type
abbrev pub own_externals : World → List Declaration
own_externals w = filter_map (λ (d : Declaration). if d.own && is_external d.kind then Some d else None) w.declared

abbrev pub unknown_external : World → Declaration → List Place
unknown_external w d = place_if (option_map_or (λ g. false) (global_in w.declared d.name) true) d.at

-- where both types are declared
abbrev pub differ : (relaxed : Bool) → World → Option Standing → Option Standing → Bool
differ relaxed w (Some a) (Some b) = not (same_standing relaxed w a b)
differ relaxed w (Some a) None = false
differ relaxed w None b = false

abbrev pub wrong_external : (relaxed : Bool) → World → Declaration → List Place
wrong_external relaxed w d =
    place_if (option_map_or (λ (g : Declaration). differ relaxed w (standing_written w.standing d.ty) (standing_written w.standing g.ty)) (global_in w.declared d.name) false) d.at

-- a configuration or a resource can't have the name of a file that every compile writes
abbrev pub wrong_name : Id → List Place
wrong_name n = place_if (is_file n.name) n.at

-- ---- N6: a value twice in one enumeration

abbrev pub values_twice : TypeWhat → List Place
values_twice (what.Enum values start) = repeated values
values_twice (what.Struct members) = []
values_twice (what.Spec w start) = []

abbrev pub definition_values_twice : TypeDef → List Place
definition_values_twice t = values_twice t.what

-- ---- each rule by its places

abbrev pub unknown : World → (config : ℕ) → Source → List Place
unknown w config u = flat_map (unknown_use w) (uses u) ++ (flat_map (unknown_task w) (flat_map (config_tasks config) (first_config u)) ++ flat_map (unknown_external w) (own_externals w))

abbrev pub wrong : (relaxed : Bool) → World → (config : ℕ) → Source → List Place
wrong relaxed w config u =
    flat_map (wrong_use w) (uses u)
    ++ (flat_map (wrong_task w) (flat_map (config_tasks config) (first_config u))
    ++ (flat_map (wrong_external relaxed w) (own_externals w)
    ++ (flat_map pou_brackets u.pous
    ++ flat_map wrong_name (flat_map config_names (first_config u)))))

abbrev pub early : (forward : Bool) → World → Source → List Place
early forward w u = if forward then [] else flat_map (early_use w) (uses u)

abbrev pub listed_twice : Source → List Place
listed_twice u = flat_map definition_values_twice u.types

-- the places at which a rule is broken
abbrev pub places : Rule → (forward relaxed : Bool) → (library u : Source) → List Place
places N1 forward relaxed library u = twice (world library u) u
places N2 forward relaxed library u = unknown (world library u) (config_scope library u) u
places N3 forward relaxed library u = wrong relaxed (world library u) (config_scope library u) u
places N4 forward relaxed library u = early forward (world library u) u
places N6 forward relaxed library u = listed_twice u
places rule forward relaxed library u = []

-- whether a rule is broken at this token
abbrev pub breaks : Rule → (forward relaxed : Bool) → (library u : Source) → (token : ℕ) → Bool
breaks rule forward relaxed library u token = list_any (λ (p : Place). nat_eq p.token token) (places rule forward relaxed library u)

-- the rules of this phase that are built
abbrev pub rules : List Rule
rules = N1 ∷ N2 ∷ N3 ∷ N4 ∷ N6 ∷ []

abbrev pub refused_at : Rule → Place → Refusal
refused_at rule at = record { rule = rule; place = at }

-- all that is broken
abbrev pub faults : (forward relaxed : Bool) → (library u : Source) → List Refusal
faults forward relaxed library u = flat_map (λ rule. map (refused_at rule) (places rule forward relaxed library u)) rules
