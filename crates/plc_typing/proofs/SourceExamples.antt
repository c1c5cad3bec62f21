-- The least broken use of small sources, one for each declaration that isn't built, by computation.
use Rattle.std.proofs.Common.{◌≡◌, refl}
use Rattle.std.specs.Prelude.{ℕ, ◌+◌, pos, false, [], ◌∷◌, List, Option, Some, None, codes}
use Rattle.plc_base.specs.declared.refusal.Place.{Place}
use Rattle.plc_base.specs.declared.refusal.Refusal.{Refusal}
use Rattle.plc_base.specs.declared.refusal.Rule.TheVariants.{NotYet}
use Rattle.plc_base.specs.declared.elem.Elem.TheVariants.{Int}
use Rattle.plc_tree.specs.declared.tree.Id.{Id}
use Rattle.plc_tree.specs.declared.tree.Unit.{Unit as Source}
use Rattle.plc_tree.specs.declared.tree.TypeDef.{TypeDef}
use Rattle.plc_tree.specs.declared.tree.TypeWhat.TheVariants.{Enum}
use Rattle.plc_tree.specs.declared.tree.PouKind.{PouKind}
use Rattle.plc_tree.specs.declared.tree.PouKind.TheVariants.{Func, Block, Prog}
use Rattle.plc_tree.specs.declared.tree.Pou.{Pou}
use Rattle.plc_tree.specs.declared.tree.Body.TheVariants.{St}
use Rattle.plc_tree.specs.declared.tree.SectionKind.{SectionKind}
use Rattle.plc_tree.specs.declared.tree.SectionKind.TheVariants.{Input, Own, Global}
use Rattle.plc_tree.specs.declared.tree.Section.{Section}
use Rattle.plc_tree.specs.declared.tree.Decl.{Decl}
use Rattle.plc_tree.specs.declared.tree.Located.{Located}
use Rattle.plc_tree.specs.declared.tree.Spec.{Spec}
use Rattle.plc_tree.specs.declared.tree.Spec.TheVariants.{Named, Sub, Array}
use Rattle.plc_tree.specs.declared.tree.Init.{Init}
use Rattle.plc_tree.specs.declared.tree.Init.TheVariants as init
use Rattle.plc_tree.specs.declared.tree.Config.{Config}
use Rattle.plc_tree.specs.declared.tree.Resource.{Resource}
use Rattle.plc_tree.specs.declared.tree.Task.{Task}
use Rattle.plc_tree.specs.declared.tree.Inst.{Inst}
use Rattle.plc_typing.specs.Uses.{broken}
use Rattle.plc_typing.proofs.StandardNames.{standard_names}

-- the token of this number
abbrev at : ℕ → Place
at token = record { file = 0; line = 1; col = token; token = token }

abbrev name : List ℕ → ℕ → Id
name word token = record { name = word; at = at token }

-- ---- a source of which no use is broken: PROGRAM P VAR A : INT := 1; END_VAR END_PROGRAM, and a configuration behind it

abbrev int : Spec
int = Named (name (codes "INT") 7)

-- from A, the token 5
abbrev decl : Option Located → Spec → Option Init → Decl
decl address what start = record { names = name (codes "A") 5 ∷ []; located = address; spec = what; init = start }

-- its first word is the token 2, and one of CONSTANT, RETAIN and NON_RETAIN would be the token 3
abbrev section : SectionKind → ℕ → List Decl → Section
section kind mark decls = record { kind = kind; constant = false; keep = false; at = at 2; mark = at mark; decls = decls }

abbrev plain : Section
plain = section Own 2 (decl None int (Some (init.Number (pos 1) None (at 9))) ∷ [])

abbrev pou : PouKind → ℕ → List Section → Pou
pou kind token sections = record { kind = kind; name = codes "P"; at = at token; result = None; sections = sections; body = St [] }

abbrev task : ℕ → Task
task token = record { name = codes "T"; at = at token; interval = pos 20000000; interval_at = at (token + 3); priority = record { value = pos 0; at = at (token + 6) } }

abbrev inst : ℕ → Option Id → Inst
inst token with = record { name = codes "I"; at = at token; task = with; program = name (codes "P") (token + 4) }

abbrev with : Option Id
with = Some (name (codes "T") 62)

abbrev resource : ℕ → List Section → List Task → List Inst → Resource
resource token globals tasks insts = record { name = codes "R"; at = at token; on = name (codes "PLC") 44; globals = globals; tasks = tasks; insts = insts }

abbrev config : ℕ → List Section → List Resource → Config
config token globals resources = record { name = codes "C"; at = at token; globals = globals; resources = resources }

abbrev program : Pou
program = pou Prog 1 (plain ∷ [])

abbrev one_resource : Resource
one_resource = resource 42 [] (task 50 ∷ []) (inst 60 with ∷ [])

abbrev one_config : Config
one_config = config 40 [] (one_resource ∷ [])

abbrev source : List TypeDef → List Pou → List Config → Source
source types pous configs = record { types = types; pous = pous; configs = configs }

-- the end is the token 99
abbrev end : Place
end = at 99

abbrev unbuilt : ℕ → Option Refusal
unbuilt token = Some (record { rule = NotYet; place = at token })

good : broken end (source [] (program ∷ []) (one_config ∷ [])) ≡ None
unfolding standard_names
good = refl

-- ---- declarations

-- TYPE E : (B); END_TYPE behind all
type_declared : broken end (source (record { name = codes "E"; at = at 80; what = Enum (name (codes "B") 83 ∷ []) None } ∷ []) (program ∷ []) (one_config ∷ [])) ≡ unbuilt 80
unfolding standard_names
type_declared = refl

function_declared : broken end (source [] (pou Func 1 (plain ∷ []) ∷ []) (one_config ∷ [])) ≡ unbuilt 1
unfolding standard_names
function_declared = refl

block_behind : broken end (source [] (program ∷ pou Block 81 [] ∷ []) (one_config ∷ [])) ≡ unbuilt 81
unfolding standard_names
block_behind = refl

second_program : broken end (source [] (program ∷ pou Prog 81 [] ∷ []) (one_config ∷ [])) ≡ unbuilt 81
unfolding standard_names
second_program = refl

-- no section, and several of them
no_section : broken end (source [] (pou Prog 1 [] ∷ []) (one_config ∷ [])) ≡ None
unfolding standard_names
no_section = refl

two_sections : broken end (source [] (pou Prog 1 (section Own 2 [] ∷ plain ∷ []) ∷ []) (one_config ∷ [])) ≡ None
unfolding standard_names
two_sections = refl

-- VAR_INPUT, and VAR NON_RETAIN, where the mark stands behind the first word
input : broken end (source [] (pou Prog 1 (section Input 2 [] ∷ []) ∷ []) (one_config ∷ [])) ≡ unbuilt 2
unfolding standard_names
input = refl

marked : broken end (source [] (pou Prog 1 (section Own 3 [] ∷ []) ∷ []) (one_config ∷ [])) ≡ unbuilt 2
unfolding standard_names
marked = refl

-- the source with this declaration
abbrev declaring : Decl → Source
declaring d = source [] (pou Prog 1 (section Own 2 (d ∷ []) ∷ []) ∷ []) (one_config ∷ [])

-- A AT %QX0 : INT
located : broken end (declaring (decl (Some (record { dir = 81; size = 88; numbers = 0 ∷ []; at = at 7 })) int None)) ≡ unbuilt 5
unfolding standard_names
located = refl

-- A : DINT, A : INT(0..1), and A : ARRAY [0..1] OF INT
other_type : broken end (declaring (decl None (Named (name (codes "DINT") 7)) None)) ≡ unbuilt 7
unfolding standard_names
other_type = refl

subrange : broken end (declaring (decl None (Sub (name (codes "INT") 7) (record { low = record { value = pos 0; at = at 9 }; high = record { value = pos 1; at = at 11 } })) None)) ≡ unbuilt 7
unfolding standard_names
subrange = refl

array : broken end (declaring (decl None (Array [] (name (codes "INT") 14) (at 7) (at 8)) None)) ≡ unbuilt 7
unfolding standard_names
array = refl

-- A : INT := INT#1, and A : INT := 32768
typed_start : broken end (declaring (decl None int (Some (init.Number (pos 1) (Some Int) (at 9))))) ≡ None
unfolding standard_names
typed_start = refl

great_start : broken end (declaring (decl None int (Some (init.Number (pos 32768) None (at 9))))) ≡ unbuilt 9
unfolding standard_names
great_start = refl

-- RED, C#RED, [] and ()
named_start : broken end (declaring (decl None int (Some (init.Named (name (codes "RED") 9))))) ≡ unbuilt 9
unfolding standard_names
named_start = refl

owned_start : broken end (declaring (decl None int (Some (init.Value (codes "C") (codes "RED") (at 9) (at 11))))) ≡ unbuilt 9
unfolding standard_names
owned_start = refl

list_start : broken end (declaring (decl None int (Some (init.List [] (at 9))))) ≡ unbuilt 9
unfolding standard_names
list_start = refl

structure_start : broken end (declaring (decl None int (Some (init.Struct [] (at 9))))) ≡ unbuilt 9
unfolding standard_names
structure_start = refl

-- ---- configurations

-- the source with these configurations
abbrev configured : List Config → Source
configured configs = source [] (program ∷ []) configs

no_config : broken end (configured []) ≡ unbuilt 99
unfolding standard_names
no_config = refl

-- the instance's program isn't there
no_program : broken end (source [] [] (one_config ∷ [])) ≡ unbuilt 64
unfolding standard_names
no_program = refl

nothing : broken end (source [] [] []) ≡ unbuilt 99
unfolding standard_names
nothing = refl

second_config : broken end (configured (one_config ∷ config 71 [] [] ∷ [])) ≡ unbuilt 71
unfolding standard_names
second_config = refl

global_variables : broken end (configured (config 40 (section Global 2 [] ∷ []) (one_resource ∷ []) ∷ [])) ≡ unbuilt 2
unfolding standard_names
global_variables = refl

variables_of_a_resource : broken end (configured (config 40 [] (resource 42 (section Global 2 [] ∷ []) (task 50 ∷ []) (inst 60 with ∷ []) ∷ []) ∷ [])) ≡ unbuilt 2
unfolding standard_names
variables_of_a_resource = refl

second_resource : broken end (configured (config 40 [] (one_resource ∷ resource 70 [] [] [] ∷ []) ∷ [])) ≡ unbuilt 70
unfolding standard_names
second_resource = refl

no_task : broken end (configured (config 40 [] (resource 42 [] [] (inst 60 with ∷ []) ∷ []) ∷ [])) ≡ unbuilt 42
unfolding standard_names
no_task = refl

second_task : broken end (configured (config 40 [] (resource 42 [] (task 50 ∷ task 58 ∷ []) (inst 60 with ∷ []) ∷ []) ∷ [])) ≡ unbuilt 58
unfolding standard_names
second_task = refl

no_with : broken end (configured (config 40 [] (resource 42 [] (task 50 ∷ []) (inst 60 None ∷ []) ∷ []) ∷ [])) ≡ unbuilt 60
unfolding standard_names
no_with = refl

second_instance : broken end (configured (config 40 [] (resource 42 [] (task 50 ∷ []) (inst 60 with ∷ inst 66 with ∷ []) ∷ []) ∷ [])) ≡ unbuilt 66
unfolding standard_names
second_instance = refl

-- the program stands behind the configuration
behind : broken end (source [] (pou Prog 90 [] ∷ []) (one_config ∷ [])) ≡ unbuilt 64
unfolding standard_names
behind = refl
