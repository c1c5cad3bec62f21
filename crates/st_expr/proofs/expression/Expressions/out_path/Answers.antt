use Rattle.st_expr.proofs.Stands.{nests_fewer}
use Rattle.st_expr.proofs.expression.Expressions.out_path.Goals as goal

pub path-requires : goal.path-requires
path-requires g c = record { nests = nests_fewer c.args.self.now.room c.requires.nests }
