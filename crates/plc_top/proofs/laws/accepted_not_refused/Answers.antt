use Rattle.plc_top.proofs.DecisionLaws as laws
use Rattle.plc_top.proofs.laws.accepted_not_refused.Goals as goal

pub returns : goal.returns
returns c = laws.accepted_not_refused
