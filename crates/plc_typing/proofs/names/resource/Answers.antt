use Rattle.std.proofs.Common.{ap, [], ◌∷◌, ◌++◌}
use Rattle.std.proofs.lemmas.Result.{on_ok_weaker}
use Rattle.plc_typing.proofs.Declaring.{declares_as, declares_next}
use Rattle.plc_typing.specs.Uses.{first_names, task_names, inst_names}
use Rattle.plc_typing.proofs.names.resource.Goals as goal

pub returns : goal.returns
returns c =
    let r = c.args.resource.now in
    let own = record { name = r.name; at = r.at } ∷ [] in
    let tasks = first_names task_names r.tasks in
    let insts = first_names inst_names r.insts in
    let a = c.declare.new.numbers in
    let m = c.declare.new.met in
    let b = c.tasks.new.numbers in
    let n = c.tasks.new.met in
    let d = c.insts.new.numbers in
    let o = c.insts.new.met in
    declares_next c.insts.result own (tasks ++ insts) c.args.numbers.now a d c.args.met.now m o c.in_ok-declare.ensures
    (declares_next c.insts.result tasks insts a b d m n o
    (declares_as (first_names task_names c.as_slice.result.now) tasks a b m n (ap (first_names task_names) c.as_slice.ensures) c.in_ok-tasks.ensures)
    (on_ok_weaker c.insts.result (declares_as (first_names inst_names c.as_slice-2.result.now) insts b d n o (ap (first_names inst_names) c.as_slice-2.ensures)) c.insts.ensures))
