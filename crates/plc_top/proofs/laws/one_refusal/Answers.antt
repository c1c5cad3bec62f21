use Rattle.plc_top.proofs.DecisionLaws as laws
use Rattle.plc_top.proofs.laws.one_refusal.Goals as goal

pub returns : goal.returns
returns c = laws.one_refusal
