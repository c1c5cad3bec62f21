use Rattle.std.proofs.lemmas.Bool.{le-ltb}
use Rattle.plc_spelling.proofs.integers.number_size.Goals as goal

-- an underscore is no digit of a base
pub apart_size-requires : goal.apart_size-requires
apart_size-requires c = le-ltb 36 c.args.base c.requires
