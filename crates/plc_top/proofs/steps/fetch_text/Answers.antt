use Rattle.std.proofs.Common.{refl, inr}
use Rattle.plc_outside.proofs.CallsLemmas.{fetch-fails, fetch-no_memory}
use Rattle.plc_top.proofs.RunLemmas.{broke, ran_out}
use Rattle.plc_top.proofs.steps.fetch_text.Goals as goal

pub returns-in-Err-Failed-clause-run : goal.returns-in-Err-Failed-clause-run
returns-in-Err-Failed-clause-run g c =
    let f = rw c.in-Err-Failed.field-0-is at c.in-Err-Failed.ensures in
    let told = rw c.bytes.ensures at c.cannot_read.ensures in
    inr (broke _ _ _ _ _ (fetch-fails _ _ _ _ _ _ _ f) (record { files = refl; console = told }))

pub returns-clause-run : goal.returns-clause-run
returns-clause-run g c =
    let f = rw c.in-Err-OutOfMemory.field-0-is at c.in-Err-OutOfMemory.ensures in
    rw c.run_out.ensures.is (ran_out _ _ _ _ (fetch-no_memory _ _ _ _ _ _ _ f) (record { files = refl; console = c.run_out.ensures.told }))
