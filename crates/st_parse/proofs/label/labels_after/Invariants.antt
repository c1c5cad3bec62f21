use Rattle.phrase.specs.Piece.{many}
use Rattle.plc_tokens.specs.Sets.{COMMA}
use Rattle.st_parse.specs.Statements.{next_label}
use Rattle.phrase.proofs.Loops.{Going}
use Rattle.st_parse.proofs.label.labels_after.Given as goal

abbrev pub invariant-loop-turn : goal.invariant-loop-turn
invariant-loop-turn l = Going COMMA next_label l._turn-end l._turn l.list l.tokens ((many COMMA next_label l.fn.list).run l.fn.tokens)
