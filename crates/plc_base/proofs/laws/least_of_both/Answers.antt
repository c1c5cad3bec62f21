use Rattle.plc_base.proofs.LeastLaws as laws
use Rattle.plc_base.proofs.laws.least_of_both.Goals as goal

pub returns : goal.returns
returns c = laws.least-append
