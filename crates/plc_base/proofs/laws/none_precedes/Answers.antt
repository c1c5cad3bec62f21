use Rattle.plc_base.proofs.LeastLaws as laws
use Rattle.plc_base.proofs.laws.none_precedes.Goals as goal

pub returns : goal.returns
returns c = laws.is_least
