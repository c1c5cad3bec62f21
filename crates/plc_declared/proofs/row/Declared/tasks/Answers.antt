use Rattle.plc_declared.proofs.Adding.{added_more}
use Rattle.plc_names.specs.Declarations.{OfTask}
use Rattle.plc_declared.proofs.row.Declared.tasks.Goals as goal

pub loop-task-preserved : goal.loop-task-preserved
loop-task-preserved c =
    added_more c.args.own c.args.self.now c.loop-task.self c.add_task.new.self c.args.tasks.now c.loop-task.task-index c.task-item.result (OfTask c.args.scope) c.loop-task-test.true c.task-item.is c.loop-task.invariant c.in_ok-add_task.ensures
