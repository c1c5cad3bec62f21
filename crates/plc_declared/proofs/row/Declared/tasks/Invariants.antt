use Rattle.std.proofs.Common.{◌≡◌, take, map}
use Rattle.plc_names.specs.Declarations.{OfTask}
use Rattle.plc_declared.specs.Row.{added}
use Rattle.plc_declared.proofs.row.Declared.tasks.Given as goal

abbrev pub invariant-loop-task : goal.invariant-loop-task
invariant-loop-task l = l.self ≡ added l.own l.initial.self (map (OfTask l.scope) (take l.task-index l.tasks))
