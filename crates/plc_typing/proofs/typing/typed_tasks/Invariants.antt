use Rattle.std.proofs.Common.{◌≡◌, map, take}
use Rattle.plc_typing.specs.Typing as spec
use Rattle.plc_typing.proofs.typing.typed_tasks.Given as goal

abbrev pub invariant-loop-task : goal.invariant-loop-task
invariant-loop-task l = l.items ≡ map (spec.typed_task l.numbers) (take l.task-index l.tasks)
