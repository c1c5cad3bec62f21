use Rattle.plc_typing.specs.Uses.{task_faults}
use Rattle.plc_typing.proofs.Standing.{second_met}
use Rattle.plc_typing.proofs.uses.tasks.Goals as goal

pub returns-in-len2-up : goal.returns-in-len2-up
returns-in-len2-up c =
    second_met (λ t. t.at) task_faults c.args.resource c.args.tasks.now c.first-item.result c.second-item.result c.args.met.now c.task-in-len2-up.new.met c.suits-in-len2-up.new.met
    c.in-len2-up.len_at_least c.first-item.is c.second-item.is c.task-in-len2-up.ensures c.suits-in-len2-up.ensures
