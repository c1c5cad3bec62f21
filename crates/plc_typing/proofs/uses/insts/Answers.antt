use Rattle.plc_base.proofs.LeastLaws.{meets_as}
use Rattle.plc_typing.specs.Uses.{sole_faults, inst_faults}
use Rattle.plc_typing.proofs.Standing.{second_met}
use Rattle.plc_typing.proofs.uses.insts.Goals as goal

pub returns-in-len2-up : goal.returns-in-len2-up
returns-in-len2-up c =
    let r = c.args.resource.now in
    let faults = inst_faults c.args.pous.now c.args.config in
    let tasks = c.as_slice-tasks in
    let insts = c.as_slice in
    let a = c.args.met.now in
    let b = c.inst-in-len2-up.new.met in
    let d = c.suits-in-len2-up.new.met in
    meets_as (sole_faults (λ i. i.at) (faults tasks.result.now) r.at insts.result.now) (sole_faults (λ i. i.at) (faults r.tasks) r.at r.insts) a d
    (λ k. sole_faults (λ i. i.at) (faults (tasks.ensures k)) r.at (insts.ensures k))
    (second_met (λ i. i.at) (faults tasks.result.now) r.at insts.result.now c.first-item.result c.second-item.result a b d c.in-len2-up.len_at_least c.first-item.is c.second-item.is c.inst-in-len2-up.ensures
    c.suits-in-len2-up.ensures)
