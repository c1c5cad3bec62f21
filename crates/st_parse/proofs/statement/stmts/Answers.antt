use Rattle.st_parse.proofs.Stands.{stands}
use Rattle.st_parse.proofs.statement.stmts.Goals as goal

pub stmts-requires : goal.stmts-requires
stmts-requires c = record {
  nests = record {
    callable = λ alloc old lt. tt;
    reads = λ alloc old new r lt h. stands c.args.room old.now new.now r lt h.1;
  };
  room = c.requires;
}
