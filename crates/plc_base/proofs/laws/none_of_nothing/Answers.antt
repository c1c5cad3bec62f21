use Rattle.plc_base.proofs.LeastLaws as laws
use Rattle.plc_base.proofs.laws.none_of_nothing.Goals as goal

pub returns : goal.returns
returns c = laws.none_is_nil
