-- What a source without a broken use is: one program, and behind it one configuration with one resource, one task and one
-- instance, which has this task and this program.
use Rattle.std.specs.Prelude.{◌≡◌, nat_lt, true, [], ◌∷◌, Some}
use Rattle.plc_tree.specs.declared.tree.Id.{Id}
use Rattle.plc_tree.specs.declared.tree.Unit.{Unit as Source}
use Rattle.plc_tree.specs.declared.tree.Pou.{Pou}
use Rattle.plc_tree.specs.declared.tree.Config.{Config}
use Rattle.plc_tree.specs.declared.tree.Resource.{Resource}
use Rattle.plc_tree.specs.declared.tree.Task.{Task}
use Rattle.plc_tree.specs.declared.tree.Inst.{Inst}
use Rattle.plc_typing.specs.Uses.{is_prog}

pub record Sole (u : Source) : Type 0 where
  pub pou : Pou
  pub config : Config
  pub resource : Resource
  pub task : Task
  pub inst : Inst
  -- the name after WITH
  pub with : Id
  pub is : u ≡ record { types = []; pous = pou ∷ []; configs = config ∷ [] }
  pub program : is_prog pou.kind ≡ true
  pub first : nat_lt pou.at.token config.at.token ≡ true
  pub no_globals : config.globals ≡ []
  pub resources : config.resources ≡ resource ∷ []
  pub no_locals : resource.globals ≡ []
  pub tasks : resource.tasks ≡ task ∷ []
  pub insts : resource.insts ≡ inst ∷ []
  pub reference : inst.task ≡ Some with
  pub of_task : with.name ≡ task.name
  pub of_program : inst.program.name ≡ pou.name
