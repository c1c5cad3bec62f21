use Rattle.std.proofs.Common.{length}
use Rattle.plc_spelling.proofs.durations.+parts.Given as goal

abbrev pub decreases-parts : goal.decreases-parts
decreases-parts l = length l.units.now
