use Rattle.std.proofs.Common.{arith}
use Rattle.st_expr.proofs.Stands.{stands, low_of}
use Rattle.st_expr.proofs.expression.+read.Goals as goal

pub at_level-requires : goal.at_level-requires
at_level-requires t c = record {
  nests = record {
    callable = λ alloc old room level line lt le. (omega (arith, c.decreases), tt);
    reads = λ alloc old new room level line r lt le h. stands level line room old.now new.now r lt h.2.0;
    low = λ alloc old new room level line r lt le h. low_of room r lt h.2.1;
  };
}
