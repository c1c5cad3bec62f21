use Rattle.phrase.specs.Piece.{many}
use Rattle.plc_tokens.specs.Sets.{FIRST_STMT}
use Rattle.st_parse.specs.Depth.{nested}
use Rattle.st_parse.specs.Statements.{next_stmt}
use Rattle.phrase.proofs.Loops.{Going}
use Rattle.st_parse.proofs.statement.Statements.more_stmts.Given as goal

abbrev pub invariant-loop-turn : goal.invariant-loop-turn
invariant-loop-turn g l = Going FIRST_STMT (next_stmt (nested l.self.room)) l._turn-end l._turn l.list l.tokens ((many FIRST_STMT (next_stmt (nested l.self.room)) l.fn.list).run l.fn.tokens)
