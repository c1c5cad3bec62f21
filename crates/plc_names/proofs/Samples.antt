-- Small sources to compute the definitions on: each name and word has the number of its token.
use Rattle.std.specs.Prelude.{ℕ, ◌+◌, ℤ, pos, false, Bool, [], ◌∷◌, List, Option, Some, None, codes}
use Rattle.plc_base.specs.declared.refusal.Place.{Place}
use Rattle.plc_base.specs.declared.refusal.Refusal.{Refusal}
use Rattle.plc_base.specs.declared.refusal.Rule.{Rule}
use Rattle.plc_tree.specs.declared.tree.Id.{Id}
use Rattle.plc_tree.specs.declared.tree.Bounds.{Bounds}
use Rattle.plc_tree.specs.declared.tree.Unit.{Unit as Source}
use Rattle.plc_tree.specs.declared.tree.TypeDef.{TypeDef}
use Rattle.plc_tree.specs.declared.tree.TypeWhat.{TypeWhat}
use Rattle.plc_tree.specs.declared.tree.TypeWhat.TheVariants as what
use Rattle.plc_tree.specs.declared.tree.Member.{Member}
use Rattle.plc_tree.specs.declared.tree.Body.TheVariants.{St}
use Rattle.plc_tree.specs.declared.tree.Stmt.{Stmt}
use Rattle.plc_tree.specs.declared.tree.PouKind.TheVariants.{Func, Block, Prog}
use Rattle.plc_tree.specs.declared.tree.Pou.{Pou}
use Rattle.plc_tree.specs.declared.tree.SectionKind.{SectionKind}
use Rattle.plc_tree.specs.declared.tree.Section.{Section}
use Rattle.plc_tree.specs.declared.tree.Decl.{Decl}
use Rattle.plc_tree.specs.declared.tree.Spec.{Spec}
use Rattle.plc_tree.specs.declared.tree.Spec.TheVariants as spec
use Rattle.plc_tree.specs.declared.tree.Init.{Init}
use Rattle.plc_tree.specs.declared.tree.Config.{Config}
use Rattle.plc_tree.specs.declared.tree.Resource.{Resource}
use Rattle.plc_tree.specs.declared.tree.Task.{Task}
use Rattle.plc_tree.specs.declared.tree.Inst.{Inst}

-- the token of this number
abbrev pub at : ℕ → Place
at token = record { file = 0; line = 1; col = token; token = token }

abbrev pub id : List ℕ → ℕ → Id
id name token = record { name = name; at = at token }

-- ---- types

abbrev pub named : List ℕ → ℕ → Spec
named name token = spec.Named (id name token)

abbrev pub range : ℤ → ℤ → Bounds
range low high = record { low = record { value = low; at = at 90 }; high = record { value = high; at = at 91 } }

-- a subrange of this type
abbrev pub sub : List ℕ → ℕ → ℤ → ℤ → Spec
sub name token low high = spec.Sub (id name token) (range low high)

-- ARRAY [0..high] OF an element, where the word is the token and the element's name five behind the bracket
abbrev pub array : ℕ → ℤ → List ℕ → ℕ → Spec
array token high element behind = spec.Array (range (pos 0) high ∷ []) (id element behind) (at token) (at (token + 1))

abbrev pub type : List ℕ → ℕ → TypeWhat → TypeDef
type name token w = record { name = name; at = at token; what = w }

abbrev pub alias : List ℕ → ℕ → Spec → TypeDef
alias name token w = type name token (what.Spec w None)

abbrev pub enum : List ℕ → ℕ → List Id → TypeDef
enum name token values = type name token (what.Enum values None)

abbrev pub member : List ℕ → ℕ → Spec → Member
member name token w = record { name = name; at = at token; spec = w; init = None }

abbrev pub struct : List ℕ → ℕ → List Member → TypeDef
struct name token members = type name token (what.Struct members)

-- ---- variables

abbrev pub decl : List Id → Spec → Option Init → Decl
decl names w start = record { names = names; located = None; spec = w; init = start }

abbrev pub one : List ℕ → ℕ → Spec → Decl
one name token w = decl (id name token ∷ []) w None

abbrev pub section : SectionKind → Bool → List Decl → Section
section kind constant decls = record { kind = kind; constant = constant; keep = false; at = at 0; mark = at 0; decls = decls }

abbrev pub function : List ℕ → ℕ → Id → List Section → List Stmt → Pou
function name token result sections body = record { kind = Func; name = name; at = at token; result = Some result; sections = sections; body = St body }

abbrev pub block : List ℕ → ℕ → List Section → Pou
block name token sections = record { kind = Block; name = name; at = at token; result = None; sections = sections; body = St [] }

abbrev pub program : List ℕ → ℕ → List Section → Pou
program name token sections = record { kind = Prog; name = name; at = at token; result = None; sections = sections; body = St [] }

-- ---- configurations

abbrev pub task : List ℕ → ℕ → Task
task name token = record { name = name; at = at token; interval = pos 20000000; interval_at = at (token + 3); priority = record { value = pos 0; at = at (token + 6) } }

abbrev pub inst : List ℕ → ℕ → Option Id → Id → Inst
inst name token with of = record { name = name; at = at token; task = with; program = of }

abbrev pub resource : List ℕ → ℕ → List Section → List Task → List Inst → Resource
resource name token globals tasks insts = record { name = name; at = at token; on = id (codes "PLC") 0; globals = globals; tasks = tasks; insts = insts }

abbrev pub config : List ℕ → ℕ → List Section → List Resource → Config
config name token globals resources = record { name = name; at = at token; globals = globals; resources = resources }

abbrev pub source : List TypeDef → List Pou → List Config → Source
source types pous configs = record { types = types; pous = pous; configs = configs }

-- no library
abbrev pub nothing : Source
nothing = source [] [] []

abbrev pub broken : Rule → ℕ → Refusal
broken rule token = record { rule = rule; place = at token }
