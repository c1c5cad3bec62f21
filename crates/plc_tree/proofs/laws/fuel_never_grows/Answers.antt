use Rattle.plc_tree.proofs.FuelLaws as fuel
use Rattle.plc_tree.proofs.laws.fuel_never_grows.Goals as goal

pub returns : goal.returns
returns c = fuel.fuel_never_grows
