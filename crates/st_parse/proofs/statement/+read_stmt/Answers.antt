use Rattle.std.proofs.Common.{arith}
use Rattle.st_parse.proofs.Stands.{stands}
use Rattle.st_parse.proofs.statement.+read_stmt.Goals as goal

pub one_stmt-requires : goal.one_stmt-requires
one_stmt-requires t c = record {
  nests = record {
    callable = λ alloc old lt. (omega (arith, c.decreases), tt);
    reads = λ alloc old new r lt h. stands c.args.room old.now new.now r lt h.1;
  };
}
