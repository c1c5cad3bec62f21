use Rattle.std.proofs.Common.{refl}
use Rattle.plc_top.proofs.Commands.{fetched_ran_out, fetched_refused, fetched_written, fetched_stopped}
use Rattle.plc_top.proofs.command.compile_text.Goals as goal

pub returns-in-Ok-write_all : goal.returns-in-Ok-write_all
returns-in-Ok-write_all g c =
    let f = rw c.deref.ensures.value at c.in-Ok-write_all.ensures in
    fetched_written _ _ _ _ _ c.in-Ok.ensures f

pub returns-in-Ok : goal.returns-in-Ok
returns-in-Ok g c =
    let f = rw c.deref.ensures.value at c.in-Err.ensures in
    fetched_stopped _ _ _ _ _ _ c.in-Ok.ensures f

pub returns-in-Err-Refused : goal.returns-in-Err-Refused
returns-in-Err-Refused g c =
    let r = rw c.in-Err-Refused.field-0-is at c.in-Err-Refused.ensures in
    let told = rw (c.in-Err-Refused.refusal-is, c.bytes.ensures) at c.refused.ensures in
    fetched_refused _ _ _ _ _ r (record { files = refl; console = told })

pub returns : goal.returns
returns g c = fetched_ran_out _ _ _ _ _ c.run_out.ensures.is (record { files = refl; console = c.run_out.ensures.told })
