use Rattle.std.proofs.Common.{◌≤◌}
use Rattle.phrase.specs.Piece.{many}
use Rattle.st_expr.specs.Depth.{deep}
use Rattle.st_expr.specs.Expressions.{joining, next_side}
use Rattle.phrase.proofs.Loops.{Going}
use Rattle.st_expr.proofs.expression.Expressions.more_sides.Given as goal

abbrev pub invariant-loop-turn : goal.invariant-loop-turn
invariant-loop-turn g l = record {
  going : Going (joining l.level) (next_side l.level l.self.line l.self.room (deep l.self.room)) l._turn-end l._turn (l.left, l.height) l.tokens ((many (joining l.level) (next_side l.level l.self.line l.self.room (deep l.self.room)) (l.fn.left, l.fn.height)).run l.fn.tokens);
  low : l.height ≤ l.self.room;
}
