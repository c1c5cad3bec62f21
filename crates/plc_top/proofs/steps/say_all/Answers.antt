use Rattle.std.proofs.Common.{refl}
use Rattle.plc_outside.proofs.CallsLemmas.{say-fails}
use Rattle.plc_top.proofs.RunLemmas.{broke}
use Rattle.plc_top.proofs.steps.say_all.Goals as goal

pub returns-in-Err : goal.returns-in-Err
returns-in-Err g c files = broke _ _ _ _ _ (say-fails _ _ _ _ files c.in-Err.ensures) (record { files = refl; console = c.cannot_say.ensures })
