use Rattle.plc_top.proofs.DecisionLaws as laws
use Rattle.plc_top.proofs.laws.decided.Goals as goal

pub returns : goal.returns
returns c = laws.decided
