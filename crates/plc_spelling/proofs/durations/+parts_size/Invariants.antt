use Rattle.std.proofs.Common.{length}
use Rattle.plc_spelling.proofs.durations.+parts_size.Given as goal

abbrev pub decreases-parts_size : goal.decreases-parts_size
decreases-parts_size l = length l.units.now
