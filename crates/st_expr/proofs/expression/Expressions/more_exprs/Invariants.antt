use Rattle.std.proofs.Common.{◌<◌}
use Rattle.phrase.specs.Piece.{many}
use Rattle.plc_tokens.specs.Sets.{COMMA}
use Rattle.st_expr.specs.Depth.{deep}
use Rattle.st_expr.specs.Expressions.{next_expr}
use Rattle.phrase.proofs.Loops.{Going}
use Rattle.st_expr.proofs.expression.Expressions.more_exprs.Given as goal

abbrev pub invariant-loop-turn : goal.invariant-loop-turn
invariant-loop-turn g l = record {
  going : Going COMMA (next_expr l.self.line (deep l.self.room)) l._turn-end l._turn (l.list, l.height) l.tokens ((many COMMA (next_expr l.self.line (deep l.self.room)) (l.fn.list, l.fn.height)).run l.fn.tokens);
  low : l.height < l.self.room;
}
