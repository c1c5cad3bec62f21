use Rattle.std.proofs.Common.{ap, ◌++◌}
use Rattle.plc_base.proofs.LeastLaws.{meets_as, meets_then}
use Rattle.plc_typing.specs.Uses.{unbuilt_faults, sole_faults, task_faults, inst_faults}
use Rattle.plc_typing.proofs.uses.resource.Goals as goal

pub returns : goal.returns
returns c =
    let r = c.args.resource.now in
    let globals = unbuilt_faults (λ s. s.at) r.globals in
    let tasks = sole_faults (λ t. t.at) task_faults r.at r.tasks in
    let insts = sole_faults (λ i. i.at) (inst_faults c.args.pous.now c.args.config r.tasks) r.at r.insts in
    let a = c.args.met.now in
    let b = c.globals.new.met in
    let d = c.tasks.new.met in
    let e = c.insts.new.met in
    meets_then globals (tasks ++ insts) a b e
    (meets_as (unbuilt_faults (λ s. s.at) c.as_slice.result.now) globals a b (ap (unbuilt_faults (λ s. s.at)) c.as_slice.ensures) c.globals.ensures)
    (meets_then tasks insts b d e (meets_as (sole_faults (λ t. t.at) task_faults r.at c.as_slice-2.result.now) tasks b d (ap (sole_faults (λ t. t.at) task_faults r.at) c.as_slice-2.ensures) c.tasks.ensures) c.insts.ensures)
