-- The units of one program, one configuration, one resource, one task and one instance.
use Rattle.std.specs.Prelude.{ℕ, ◌≡◌, ◌<◌, List, [], ◌∷◌, map, unsigned_abs, Some}
use Rattle.plc_tree.specs.declared.typed.TUnit.{TUnit}
use Rattle.plc_tree.specs.declared.typed.TPou.{TPou}
use Rattle.plc_tree.specs.declared.typed.TTask.{TTask}
use Rattle.plc_tree.specs.declared.typed.TVar.{TVar}
use Rattle.plc_tree.specs.WellTyped.{IsTypedPou}
use Rattle.c_meaning.specs.Names.{Apart}

pub record Single : Type 0 where
  pub pou : TPou
  pub task : TTask
  pub config_id : ℕ
  pub config_name : List ℕ
  pub resource_id : ℕ
  pub resource_name : List ℕ
  pub inst_id : ℕ
  pub inst_name : List ℕ

-- the task runs the instance, which is one of the program
abbrev pub unit_of : Single → TUnit
unit_of x = record {
  pous = x.pou ∷ [];
  configs = record {
    id = x.config_id;
    name = x.config_name;
    resources = record {
      id = x.resource_id;
      name = x.resource_name;
      tasks = x.task ∷ [];
      insts = record { id = x.inst_id; name = x.inst_name; task = Some x.task.id; program = x.pou.id } ∷ [];
    } ∷ [];
  } ∷ [];
}

-- the body is typed well, over variables whose names differ
pub record IsSingle (u : TUnit) : Type 0 where
  pub parts : Single
  pub is : u ≡ unit_of parts
  pub interval : 0 < unsigned_abs parts.task.interval
  pub typed : IsTypedPou parts.pou
  pub apart : Apart (map (λ (v : TVar). v.name) parts.pou.vars)
