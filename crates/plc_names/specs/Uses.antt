-- The names that the declarations of a source use, and what each place wants of its name.
use Rattle.std.specs.Prelude.{ℕ, ◌+◌, Bool, true, false, not, ◌&&◌, List, [], ◌∷◌, ◌++◌, map, Option, Some, None, if◌then◌else◌}
use Rattle.std.specs.List.{flat_map, enumerate_from}
use Rattle.std.specs.Option.{is_some}
use Rattle.plc_base.specs.declared.refusal.Place.{Place}
use Rattle.plc_tree.specs.declared.tree.Id.{Id}
use Rattle.plc_tree.specs.declared.tree.Unit.{Unit as Source}
use Rattle.plc_tree.specs.declared.tree.TypeDef.{TypeDef}
use Rattle.plc_tree.specs.declared.tree.TypeWhat.{TypeWhat}
use Rattle.plc_tree.specs.declared.tree.TypeWhat.TheVariants as what
use Rattle.plc_tree.specs.declared.tree.Member.{Member}
use Rattle.plc_tree.specs.declared.tree.Spec.{Spec}
use Rattle.plc_tree.specs.declared.tree.Spec.TheVariants as spec
use Rattle.plc_tree.specs.declared.tree.Init.{Init}
use Rattle.plc_tree.specs.declared.tree.Pou.{Pou}
use Rattle.plc_tree.specs.declared.tree.PouKind.{PouKind}
use Rattle.plc_tree.specs.declared.tree.PouKind.TheVariants as pou
use Rattle.plc_tree.specs.declared.tree.Section.{Section}
use Rattle.plc_tree.specs.declared.tree.SectionKind.{SectionKind}
use Rattle.plc_tree.specs.declared.tree.SectionKind.TheVariants as section
use Rattle.plc_tree.specs.declared.tree.Decl.{Decl}
use Rattle.plc_tree.specs.declared.tree.Config.{Config}
use Rattle.plc_tree.specs.declared.tree.Resource.{Resource}
use Rattle.plc_tree.specs.declared.tree.Inst.{Inst}
use Rattle.plc_names.specs.declared.wants.Want.{Want}
use Rattle.plc_names.specs.declared.wants.Want.TheVariants.{AType, ATypeOrBlock, ALeafType, AnEnum, AProgram}
use Rattle.plc_names.specs.Items.{first_config}
use Rattle.plc_names.specs.Needs.{spec_type, start_owners}

-- ---- names of the scope of the source

pub record Use : Type 0 where
  pub want : Want
  pub name : List ℕ
  pub at : Place

abbrev pub use_of : Want → Id → Use
use_of want n = record { want = want; name = n.name; at = n.at }

-- the type of a block stands as the type of a whole variable alone
abbrev pub want_of_spec : Want → Spec → Want
want_of_spec want (spec.Named n) = want
want_of_spec want (spec.Sub base bounds) = AType
want_of_spec want (spec.Array bounds element at bracket) = AType

-- a type and an initial value
abbrev pub start_uses : Want → Spec → Option Init → List Use
start_uses want w start = use_of (want_of_spec want w) (spec_type w) ∷ map (use_of AnEnum) (start_owners start)

abbrev pub member_uses : Member → List Use
member_uses m = start_uses AType m.spec m.init

abbrev pub type_uses : TypeWhat → List Use
type_uses (what.Enum values start) = []
type_uses (what.Struct members) = flat_map member_uses members
type_uses (what.Spec w start) = start_uses AType w start

-- a block stands in VAR without CONSTANT
abbrev pub holds_blocks : Section → Bool
holds_blocks s = is_own s.kind && not s.constant
  where
    is_own : SectionKind → Bool
    is_own section.Own = true
    is_own k = false

-- what a section wants of the types in it: in a function, in a block or a program, or of globals
abbrev pub want_in : Option PouKind → Section → Want
want_in None s = AType
want_in (Some pou.Func) s = ALeafType
want_in (Some pou.Block) s = if holds_blocks s then ATypeOrBlock else AType
want_in (Some pou.Prog) s = if holds_blocks s then ATypeOrBlock else AType

-- that a located variable is of no block is a rule of its address
abbrev pub decl_uses : Want → Decl → List Use
decl_uses want d = start_uses (if is_some d.located then ATypeOrBlock else want) d.spec d.init

abbrev pub section_uses : Option PouKind → Section → List Use
section_uses owner s = flat_map (decl_uses (want_in owner s)) s.decls

abbrev pub result_uses : Option Id → List Use
result_uses None = []
result_uses (Some n) = use_of ALeafType n ∷ []

abbrev pub pou_uses : Pou → List Use
pou_uses p = result_uses p.result ++ flat_map (section_uses (Some p.kind)) p.sections

abbrev pub inst_use : Inst → Use
inst_use i = use_of AProgram i.program

abbrev pub resource_uses : Resource → List Use
resource_uses r = flat_map (section_uses None) r.globals ++ map inst_use r.insts

abbrev pub config_uses : Config → List Use
config_uses c = flat_map (section_uses None) c.globals ++ flat_map resource_uses c.resources

abbrev pub definition_uses : TypeDef → List Use
definition_uses t = type_uses t.what

abbrev pub uses : Source → List Use
uses u = flat_map definition_uses u.types ++ (flat_map pou_uses u.pous ++ flat_map config_uses (first_config u))

-- ---- names of tasks

-- a name behind WITH, which the resource of this scope declares
pub record TaskUse : Type 0 where
  pub scope : ℕ
  pub task : Id

abbrev pub inst_tasks : (scope : ℕ) → Inst → List TaskUse
inst_tasks scope i = task_of i.task
  where
    task_of : Option Id → List TaskUse
    task_of None = []
    task_of (Some n) = record { scope = scope; task = n } ∷ []

abbrev pub resource_tasks : ℕ × Resource → List TaskUse
resource_tasks (scope, r) = flat_map (inst_tasks scope) r.insts

-- where the configuration has this scope
abbrev pub config_tasks : (scope : ℕ) → Config → List TaskUse
config_tasks scope c = flat_map resource_tasks (enumerate_from (scope + 1) c.resources)

-- ---- arrays that are written in functions, each at its "["

abbrev pub spec_brackets : Spec → List Place
spec_brackets (spec.Named n) = []
spec_brackets (spec.Sub base bounds) = []
spec_brackets (spec.Array bounds element at bracket) = bracket ∷ []

abbrev pub decl_brackets : Decl → List Place
decl_brackets d = spec_brackets d.spec

abbrev pub section_brackets : Section → List Place
section_brackets s = flat_map decl_brackets s.decls

abbrev pub pou_brackets : Pou → List Place
pou_brackets p = brackets_of p.kind
  where
    brackets_of : PouKind → List Place
    brackets_of pou.Func = flat_map section_brackets p.sections
    brackets_of pou.Block = []
    brackets_of pou.Prog = []

-- ---- the names of a configuration and its resources

abbrev pub config_names : Config → List Id
config_names c = record { name = c.name; at = c.at } ∷ map (λ (r : Resource). record { name = r.name; at = r.at }) c.resources
