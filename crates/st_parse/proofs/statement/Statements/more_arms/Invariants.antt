use Rattle.phrase.specs.Piece.{many}
use Rattle.plc_tokens.specs.Sets.{ELSIF}
use Rattle.st_parse.specs.Depth.{nested}
use Rattle.st_parse.specs.Statements.{next_arm}
use Rattle.phrase.proofs.Loops.{Going}
use Rattle.st_parse.proofs.statement.Statements.more_arms.Given as goal

abbrev pub invariant-loop-turn : goal.invariant-loop-turn
invariant-loop-turn g l = Going ELSIF (next_arm (nested l.self.room)) l._turn-end l._turn l.list l.tokens ((many ELSIF (next_arm (nested l.self.room)) l.fn.list).run l.fn.tokens)
