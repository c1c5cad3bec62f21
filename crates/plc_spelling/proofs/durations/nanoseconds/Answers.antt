use Rattle.plc_spelling.proofs.durations.nanoseconds.Goals as goal
use Rattle.plc_spelling.proofs.DurationSums.{fraction-digits}

pub share-requires : goal.share-requires
share-requires c = rw c.fraction.ensures (fraction-digits c.args.bytes.now)
