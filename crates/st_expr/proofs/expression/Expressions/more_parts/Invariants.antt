use Rattle.std.proofs.Common.{◌≤◌}
use Rattle.phrase.specs.Piece.{many}
use Rattle.plc_tokens.specs.Sets.{PARTS}
use Rattle.st_expr.specs.Depth.{deep}
use Rattle.st_expr.specs.Expressions.{part}
use Rattle.phrase.proofs.Loops.{Going}
use Rattle.st_expr.proofs.expression.Expressions.more_parts.Given as goal

abbrev pub invariant-loop-turn : goal.invariant-loop-turn
invariant-loop-turn g l = record {
  going : Going PARTS (part l.self.line l.self.room (deep l.self.room)) l._turn-end l._turn (l.parts, l.height) l.tokens ((many PARTS (part l.self.line l.self.room (deep l.self.room)) (l.fn.parts, l.fn.height)).run l.fn.tokens);
  low : l.height ≤ l.self.room;
}
