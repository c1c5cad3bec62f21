use Rattle.phrase.specs.Piece.{many}
use Rattle.plc_tokens.specs.Sets.{FIRST_ITEM}
use Rattle.st_parse.specs.Depth.{nested}
use Rattle.st_parse.specs.Statements.{item}
use Rattle.phrase.proofs.Loops.{Going}
use Rattle.st_parse.proofs.statement.Statements.more_items.Given as goal

abbrev pub invariant-loop-turn : goal.invariant-loop-turn
invariant-loop-turn g l = Going FIRST_ITEM (item (nested l.self.room)) l._turn-end l._turn l.group l.tokens ((many FIRST_ITEM (item (nested l.self.room)) l.fn.group).run l.fn.tokens)
