use Rattle.std.proofs.Common.{◌≡◌, refl, Err, rules}
use Rattle.plc_outside.proofs.CallsLemmas.{Finished-nothing}
use Rattle.plc_top.proofs.RunLemmas.{ran_out, Makes-after, Makes-handed_on}
use Rattle.plc_top.proofs.steps.write_all.Goals as goal

pub returns-in-Err : goal.returns-in-Err
returns-in-Err g c = rw c.run_out.ensures.is (ran_out _ _ _ _ (Finished-nothing _) (record { files = refl; console = c.run_out.ensures.told }))

pub returns-in_err-put_all : goal.returns-in_err-put_all
returns-in_err-put_all g c =
    let is : c.from_residual.result ≡ Err c.in_err-put_all.field-0.0 = search rules in
    Makes-handed_on _ _ _ _ _ _ is c.in_err-put_all.ensures

pub returns : goal.returns
returns g c =
    let said = rw (c.deref.ensures.value, c.in-Ok.ensures) at c.say_all.ensures in
    Makes-after _ _ _ _ _ _ c.in_ok-put_all.ensures (said _)

pub returns-in-Err-reserve_lines : goal.returns-in-Err-reserve_lines
returns-in-Err-reserve_lines g c =
    rw c.run_out-in-Err-reserve_lines.ensures.is (ran_out _ _ _ _ (Finished-nothing _) (record { files = refl; console = c.run_out-in-Err-reserve_lines.ensures.told }))
