-- Which programs run in a scan, and in what order (IEC 61131-3, 2.7.2).
use Rattle.std.specs.Prelude.{ℕ, zero, suc, ◌+◌, ◌%◌, ◌/◌, List, [], ◌∷◌, ◌++◌, map, Option, Some, None, nat_eq, nat_le, unsigned_abs, Bool, if◌then◌else◌}
use Rattle.std.specs.List.{flat_map, filter}
use Rattle.plc_tree.specs.declared.typed.TUnit.{TUnit}
use Rattle.plc_tree.specs.declared.typed.TConfig.{TConfig}
use Rattle.plc_tree.specs.declared.typed.TResource.{TResource}
use Rattle.plc_tree.specs.declared.typed.TTask.{TTask}
use Rattle.plc_tree.specs.declared.typed.TInst.{TInst}

-- the greatest common divisor, by Euclid's steps: b + 1 of them are enough
abbrev pub divisor_within : ℕ → ℕ → ℕ → ℕ
divisor_within zero a b = a
divisor_within (suc steps) a b = if nat_eq b 0 then a else divisor_within steps b (a % b)

abbrev pub common_divisor : ℕ → ℕ → ℕ
common_divisor a b = divisor_within (b + 1) a b

abbrev pub common_divisor_of : List ℕ → ℕ
common_divisor_of [] = 0
common_divisor_of (x ∷ xs) = common_divisor x (common_divisor_of xs)

-- in nanoseconds
abbrev pub interval_of : TTask → ℕ
interval_of t = unsigned_abs t.interval

abbrev pub config_tasks : TConfig → List TTask
config_tasks c = flat_map (λ r. r.tasks) c.resources

abbrev pub tasks : TUnit → List TTask
tasks u = flat_map config_tasks u.configs

-- the common tick time: the greatest common divisor of all intervals, 0 without tasks
abbrev pub common_tick : TUnit → ℕ
common_tick u = common_divisor_of (map interval_of (tasks u))

-- a number divided by another that may be 0
abbrev pub over : ℕ → ℕ → ℕ
over a zero = 0
over a (suc b) = a / suc b

abbrev pub rest_of : ℕ → ℕ → ℕ
rest_of a zero = a
rest_of a (suc b) = a % suc b

-- a task is due at each tick that its interval, in ticks, divides
abbrev pub is_due : ℕ → ℕ → TTask → Bool
is_due common tick t = nat_eq (rest_of tick (over (interval_of t) common)) 0

-- an instance that a task runs
pub record Timed : Type 0 where
  pub inst : TInst
  pub task : TTask

abbrev pub task_in : List TTask → ℕ → Option TTask
task_in [] id = None
task_in (t ∷ ts) id = if nat_eq t.id id then Some t else task_in ts id

abbrev pub task_of : List TTask → Option ℕ → Option TTask
task_of ts None = None
task_of ts (Some id) = task_in ts id

abbrev pub timed_one : TInst → Option TTask → List Timed
timed_one i None = []
timed_one i (Some t) = record { inst = i; task = t } ∷ []

abbrev pub free_one : TInst → Option TTask → List TInst
free_one i None = i ∷ []
free_one i (Some t) = []

-- the instances with a task, and those without one, in text order
abbrev pub timed : TResource → List Timed
timed r = flat_map (λ i. timed_one i (task_of r.tasks i.task)) r.insts

abbrev pub free : TResource → List TInst
free r = flat_map (λ i. free_one i (task_of r.tasks i.task)) r.insts

-- by PRIORITY, 0 first, and ties as they stood: each before the first that is not more urgent
abbrev pub insert : Timed → List Timed → List Timed
insert x [] = x ∷ []
insert x (y ∷ ys) = if nat_le x.task.priority y.task.priority then x ∷ y ∷ ys else y ∷ insert x ys

abbrev pub by_priority : List Timed → List Timed
by_priority [] = []
by_priority (x ∷ xs) = insert x (by_priority xs)

-- of one resource: the due programs by priority, then those without a task
abbrev pub resource_runs : ℕ → ℕ → TResource → List TInst
resource_runs common tick r = map (λ x. x.inst) (by_priority (filter (λ x. is_due common tick x.task) (timed r))) ++ free r

abbrev pub config_runs : ℕ → ℕ → TConfig → List TInst
config_runs common tick c = flat_map (resource_runs common tick) c.resources

-- the program instances that run at a tick, in order
abbrev pub runs : TUnit → ℕ → List TInst
runs u tick = flat_map (config_runs (common_tick u) tick) u.configs
