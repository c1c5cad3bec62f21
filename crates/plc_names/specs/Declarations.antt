-- What the library and a source declare, in which scope, and which types they make, in text order. In the library
-- configurations are not looked at.
--
-- Scope 0 is that of the source. From 1 on come the program organisation units of the library, then those of the source.
-- Then come the configuration and its resources, and last the scope in which their names are declared.
use Rattle.std.specs.Prelude.{ℕ, ◌+◌, Bool, true, false, List, ℤ, [], ◌∷◌, ◌++◌, map, length, Option, Some, None}
use Rattle.std.specs.List.{flat_map, enumerate_from}
use Rattle.plc_base.specs.declared.refusal.Place.{Place}
use Rattle.plc_tree.specs.declared.tree.Id.{Id}
use Rattle.plc_tree.specs.declared.tree.Bounds.{Bounds}
use Rattle.plc_tree.specs.declared.tree.Unit.{Unit as Source}
use Rattle.plc_tree.specs.declared.tree.TypeDef.{TypeDef}
use Rattle.plc_tree.specs.declared.tree.TypeWhat.{TypeWhat}
use Rattle.plc_tree.specs.declared.tree.TypeWhat.TheVariants as what
use Rattle.plc_tree.specs.declared.tree.Member.{Member}
use Rattle.plc_tree.specs.declared.tree.Spec.{Spec}
use Rattle.plc_tree.specs.declared.tree.Spec.TheVariants as spec
use Rattle.plc_tree.specs.declared.tree.Pou.{Pou}
use Rattle.plc_tree.specs.declared.tree.PouKind.{PouKind}
use Rattle.plc_tree.specs.declared.tree.PouKind.TheVariants as pou
use Rattle.plc_tree.specs.declared.tree.Section.{Section}
use Rattle.plc_tree.specs.declared.tree.SectionKind.{SectionKind}
use Rattle.plc_tree.specs.declared.tree.SectionKind.TheVariants as section
use Rattle.plc_tree.specs.declared.tree.Decl.{Decl}
use Rattle.plc_tree.specs.declared.tree.Config.{Config}
use Rattle.plc_tree.specs.declared.tree.Resource.{Resource}
use Rattle.plc_tree.specs.declared.tree.Task.{Task}
use Rattle.plc_tree.specs.declared.tree.Inst.{Inst}
use Rattle.plc_names.specs.declared.types.TypeId.TheVariants as type_id
use Rattle.plc_names.specs.declared.names.NameKind.{NameKind}
use Rattle.plc_names.specs.declared.names.NameKind.TheVariants as kind
use Rattle.plc_names.specs.declared.declarations.Declaration.{Declaration}
use Rattle.plc_names.specs.declared.declarations.Written.{Written}
use Rattle.plc_names.specs.declared.declarations.Written.TheVariants as written
use Rattle.plc_names.specs.declared.declarations.Part.{Part}
use Rattle.plc_names.specs.declared.declarations.PartType.{PartType}
use Rattle.plc_names.specs.declared.declarations.PartType.TheVariants as part
use Rattle.plc_names.specs.declared.declarations.Made.{Made}
use Rattle.plc_names.specs.declared.declarations.Made.TheVariants as made
use Rattle.plc_names.specs.Items.{What, AType, APou, AConfig, Item, first_config, items, own_items}

-- ---- the text

-- what declares some names in a scope, with the own scope of what it opens
pub data Entry : Type 0 where
  OfType : TypeDef → Entry
  OfPou : (inner : ℕ) → Pou → Entry
  OfVars : (scope : ℕ) → Section → Decl → Entry
  OfConfig : (scope inner : ℕ) → Config → Entry
  OfResource : (scope inner : ℕ) → Resource → Entry
  OfTask : (scope : ℕ) → Task → Entry
  OfInst : (scope : ℕ) → Inst → Entry

abbrev pub section_entries : (scope : ℕ) → Section → List Entry
section_entries scope s = map (OfVars scope s) s.decls

abbrev pub pou_entries : (inner : ℕ) → Pou → List Entry
pou_entries inner p = OfPou inner p ∷ flat_map (section_entries inner) p.sections

abbrev pub resource_entries : (names : ℕ) → ℕ × Resource → List Entry
resource_entries names (inner, r) = OfResource names inner r ∷ (flat_map (section_entries inner) r.globals ++ (map (OfTask inner) r.tasks ++ map (OfInst inner) r.insts))

-- the scope of the names of a configuration and its resources, where the configuration has this one
abbrev pub names_scope : (inner : ℕ) → Config → ℕ
names_scope inner c = inner + 1 + length c.resources

abbrev pub config_entries : (inner : ℕ) → Config → List Entry
config_entries inner c =
    OfConfig (names_scope inner c) inner c
    ∷ (flat_map (section_entries inner) c.globals ++ flat_map (resource_entries (names_scope inner c)) (enumerate_from (inner + 1) c.resources))

-- of a declaration of a unit whose program organisation units have the scopes from `first` on, its configuration `config`
abbrev pub item_entries : (first config : ℕ) → Item → List Entry
item_entries first config x = entries_of x.what
  where
    entries_of : What → List Entry
    entries_of (AType t) = OfType t ∷ []
    entries_of (APou k p) = pou_entries (first + k) p
    entries_of (AConfig c) = config_entries config c

-- the first scope of the source
abbrev pub first_scope : (library : Source) → ℕ
first_scope library = 1 + length library.pous

-- that of its configuration
abbrev pub config_scope : (library u : Source) → ℕ
config_scope library u = first_scope library + length u.pous

-- how many scopes there are
abbrev pub config_scopes : List Config → ℕ
config_scopes [] = 0
config_scopes (c ∷ cs) = 2 + length c.resources

abbrev pub scope_count : (library u : Source) → ℕ
scope_count library u = config_scope library u + config_scopes (first_config u)

abbrev pub library_entries : (library : Source) → List Entry
library_entries library = flat_map (item_entries 1 0) (own_items library)

abbrev pub source_entries : (library u : Source) → List Entry
source_entries library u = flat_map (item_entries (first_scope library) (config_scope library u)) (items u)

-- ---- the types that are made

abbrev pub name_of : Id → List ℕ
name_of n = n.name

abbrev pub limits : Bounds → ℤ × ℤ
limits b = (b.low.value, b.high.value)

abbrev pub spec_made : (named : Bool) → Spec → List Made
spec_made named (spec.Named n) = []
spec_made named (spec.Sub base bounds) = made.Sub base.name bounds.low.value bounds.high.value ∷ []
spec_made named (spec.Array bounds element at bracket) = made.Array named (map limits bounds) element.name ∷ []

abbrev pub part_type : Spec → PartType
part_type (spec.Named n) = part.ByName n.name
part_type (spec.Sub base bounds) = part.Sub
part_type (spec.Array bounds element at bracket) = part.Array

abbrev pub part_of : Member → Part
part_of m = record { name = m.name; ty = part_type m.spec }

abbrev pub member_made : Member → List Made
member_made m = spec_made false m.spec

-- an array that is declared as a type has a name; the types of fields stand behind their structure
abbrev pub type_made : TypeWhat → List Made
type_made (what.Enum values init) = made.Enum (map name_of values) ∷ []
type_made (what.Struct members) = made.Struct (map part_of members) ∷ flat_map member_made members
type_made (what.Spec s init) = spec_made true s

abbrev pub made_of : Entry → List Made
made_of (OfType t) = type_made t.what
made_of (OfPou inner p) = []
made_of (OfVars scope s d) = spec_made false d.spec
made_of (OfConfig scope inner c) = []
made_of (OfResource scope inner r) = []
made_of (OfTask scope t) = []
made_of (OfInst scope i) = []

-- all of them: a type's number is its place in this list
abbrev pub all_made : (library u : Source) → List Made
all_made library u = flat_map made_of (library_entries library) ++ flat_map made_of (source_entries library u)

-- ---- the names that are declared

-- where the next type that is made has this number
abbrev pub written_spec : (next : ℕ) → Spec → Written
written_spec next (spec.Named n) = written.ByName n.name
written_spec next (spec.Sub base bounds) = written.Itself (type_id.Sub next)
written_spec next (spec.Array bounds element at bracket) = written.Itself (type_id.Array next)

abbrev pub written_type : (next : ℕ) → TypeWhat → Written
written_type next (what.Enum values init) = written.Itself (type_id.Enum next)
written_type next (what.Struct members) = written.Itself (type_id.Struct next)
written_type next (what.Spec s init) = written_spec next s

abbrev pub kind_of_pou : PouKind → NameKind
kind_of_pou pou.Func = kind.Func
kind_of_pou pou.Block = kind.Block
kind_of_pou pou.Prog = kind.Prog

abbrev pub kind_of_section : SectionKind → NameKind
kind_of_section section.Input = kind.Input
kind_of_section section.Output = kind.Output
kind_of_section section.InOut = kind.InOut
kind_of_section section.Own = kind.Own
kind_of_section section.External = kind.External
kind_of_section section.Global = kind.Global

abbrev pub written_result : Option Id → Written
written_result None = written.Untyped
written_result (Some n) = written.ByName n.name

-- a function has the type of its result, a block is a type itself
abbrev pub written_pou : (inner : ℕ) → PouKind → Option Id → Written
written_pou inner pou.Func result = written_result result
written_pou inner pou.Block result = written.Itself (type_id.Block inner)
written_pou inner pou.Prog result = written.Untyped

abbrev pub value_declared : (own : Bool) → (type : ℕ) → Id → Declaration
value_declared own type n = record { name = n.name; at = n.at; own = own; kind = kind.Value; scope = 0; inner = None; constant = false; ty = written.Itself (type_id.Enum type) }

abbrev pub values_declared : (own : Bool) → (next : ℕ) → TypeWhat → List Declaration
values_declared own next (what.Enum values init) = map (value_declared own next) values
values_declared own next (what.Struct members) = []
values_declared own next (what.Spec s init) = []

abbrev pub type_declared : (own : Bool) → (next : ℕ) → TypeDef → Declaration
type_declared own next t = record { name = t.name; at = t.at; own = own; kind = kind.Named; scope = 0; inner = None; constant = false; ty = written_type next t.what }

abbrev pub pou_declared : (own : Bool) → (inner : ℕ) → Pou → Declaration
pou_declared own inner p = record { name = p.name; at = p.at; own = own; kind = kind_of_pou p.kind; scope = 0; inner = Some inner; constant = false; ty = written_pou inner p.kind p.result }

abbrev pub variable_declared : (own : Bool) → (next scope : ℕ) → Section → Spec → Id → Declaration
variable_declared own next scope s what n =
    record { name = n.name; at = n.at; own = own; kind = kind_of_section s.kind; scope = scope; inner = None; constant = s.constant; ty = written_spec next what }

abbrev pub untyped : (own : Bool) → NameKind → (scope : ℕ) → (inner : Option ℕ) → List ℕ → Place → Declaration
untyped own k scope inner name at = record { name = name; at = at; own = own; kind = k; scope = scope; inner = inner; constant = false; ty = written.Untyped }

-- the names that an entry declares, where the next type that is made has this number
abbrev pub declared_of : (own : Bool) → (next : ℕ) → Entry → List Declaration
declared_of own next (OfType t) = type_declared own next t ∷ values_declared own next t.what
declared_of own next (OfPou inner p) = pou_declared own inner p ∷ []
declared_of own next (OfVars scope s d) = map (variable_declared own next scope s d.spec) d.names
declared_of own next (OfConfig scope inner c) = untyped own kind.Config scope (Some inner) c.name c.at ∷ []
declared_of own next (OfResource scope inner r) = untyped own kind.Resource scope (Some inner) r.name r.at ∷ []
declared_of own next (OfTask scope t) = untyped own kind.Task scope None t.name t.at ∷ []
declared_of own next (OfInst scope i) = untyped own kind.Inst scope None i.name i.at ∷ []

-- each entry makes its types behind those of the entries before it
abbrev pub declared_from : (own : Bool) → (next : ℕ) → List Entry → List Declaration
declared_from own next [] = []
declared_from own next (x ∷ xs) = declared_of own next x ++ declared_from own (next + length (made_of x)) xs

-- all of them: a declaration's number is its place in this list
abbrev pub all_declared : (library u : Source) → List Declaration
all_declared library u =
    declared_from false 0 (library_entries library) ++ declared_from true (length (flat_map made_of (library_entries library))) (source_entries library u)
