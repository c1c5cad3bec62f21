use Rattle.std.proofs.Common.{arith}
use Rattle.type_parse.proofs.initial.+read_init.Goals as goal

pub init-requires : goal.init-requires
init-requires t c = record {
  nests = record {
    callable = λ alloc old room lt. (omega (arith, c.decreases), tt);
    reads = λ alloc old new room r lt h. h.1;
  };
}
