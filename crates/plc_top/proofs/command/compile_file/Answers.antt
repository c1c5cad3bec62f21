use Rattle.std.proofs.Common.{refl}
use Rattle.plc_top.proofs.Commands.{found, source_compiled, fetch_stopped, compile_ran_out}
use Rattle.plc_top.proofs.command.compile_file.Goals as goal

pub returns-in-Ok-fetch_text : goal.returns-in-Ok-fetch_text
returns-in-Ok-fetch_text g c =
    let h = rw c.deref.ensures.value at c.compile_text.ensures in
    source_compiled _ _ _ _ _ _ _ (found _ _ _ c.in-Ok-fetch_text.ensures.text) c.in-Ok-fetch_text.ensures.run h

pub returns-in-Err : goal.returns-in-Err
returns-in-Err g c = compile_ran_out _ _ _ _ _ c.run_out.ensures.is (record { files = refl; console = c.run_out.ensures.told })

pub returns : goal.returns
returns g c = fetch_stopped _ _ _ _ _ c.in-Err-fetch_text.ensures.run
