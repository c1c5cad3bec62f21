-- The listed rows of a unit, by a walk over its declarations: of each configuration, resource and program
-- instance in text order the variables in the order of their declarations.
use Rattle.std.specs.Prelude.{ℕ, zero, suc, ◌+◌, Bool, not, ◌&&◌, List, [], ◌∷◌, ◌++◌, map, codes, ℤ, Option, Some, None, nat_eq, if◌then◌else◌}
use Rattle.std.specs.List.{flat_map}
use Rattle.plc_base.specs.declared.elem.Elem.{Elem}
use Rattle.plc_tree.specs.declared.typed.TUnit.{TUnit}
use Rattle.plc_tree.specs.declared.typed.TPou.{TPou}
use Rattle.plc_tree.specs.declared.typed.TVar.{TVar}
use Rattle.plc_tree.specs.declared.typed.TConfig.{TConfig}
use Rattle.plc_tree.specs.declared.typed.TResource.{TResource}
use Rattle.plc_tree.specs.declared.typed.TInst.{TInst}
use Rattle.plc_tree.specs.declared.typed.TypeId.{TypeId}
use Rattle.plc_tree.specs.declared.typed.TypeId.TheVariants.{Elem as elementary}
use Rattle.plc_tree.specs.Store.{Path}

-- a listed variable: its path in the store, the C object that holds it, the members that lead to it, its type, the
-- number that it starts at, and whether a warm start keeps it
pub record Row : Type 0 where
  pub path : Path
  pub object : List ℕ
  pub fields : List (List ℕ)
  pub elem : Elem
  pub init : ℤ
  pub keep : Bool

-- the elementary type of a type's numbers
abbrev pub elem_of : TypeId → Elem
elem_of (elementary e) = e

-- the POU with this number
abbrev pub pou_in : List TPou → ℕ → Option TPou
pou_in [] id = None
pou_in (p ∷ ps) id = if nat_eq p.id id then Some p else pou_in ps id

abbrev pub vars_of : Option TPou → List TVar
vars_of None = []
vars_of (Some p) = p.vars

-- the C object of a program instance
abbrev pub object_name : TResource → TInst → List ℕ
object_name r i = r.name ++ codes "__" ++ i.name

abbrev pub var_row : TResource → TInst → TVar → Row
var_row r i v = record { path = i.id ∷ v.id ∷ []; object = object_name r i; fields = v.name ∷ []; elem = elem_of v.ty; init = v.init; keep = v.keep && not v.constant }

abbrev pub inst_rows : TUnit → TResource → TInst → List Row
inst_rows u r i = map (var_row r i) (vars_of (pou_in u.pous i.program))

abbrev pub resource_rows : TUnit → TResource → List Row
resource_rows u r = flat_map (inst_rows u r) r.insts

abbrev pub config_rows : TUnit → TConfig → List Row
config_rows u c = flat_map (resource_rows u) c.resources

abbrev pub rows : TUnit → List Row
rows u = flat_map (config_rows u) u.configs

-- the row with a number, from 0
abbrev pub row_at : List Row → ℕ → Option Row
row_at [] k = None
row_at (r ∷ rs) zero = Some r
row_at (r ∷ rs) (suc k) = row_at rs k

-- the numbers of the kept rows, the first row having this number
abbrev pub kept_from : ℕ → List Row → List ℕ
kept_from k [] = []
kept_from k (r ∷ rs) = if r.keep then k ∷ kept_from (k + 1) rs else kept_from (k + 1) rs

abbrev pub kept : TUnit → List ℕ
kept u = kept_from 0 (rows u)
