use Rattle.st_expr.proofs.Stands.{stands, low_of}
use Rattle.st_expr.proofs.expression.path.Goals as goal

pub path-requires : goal.path-requires
path-requires c = record {
  nests = record {
    callable = λ alloc old room level line lt le. tt;
    reads = λ alloc old new room level line r lt le h. stands level line room old.now new.now r lt h.2.0;
    low = λ alloc old new room level line r lt le h. low_of room r lt h.2.1;
  };
}
