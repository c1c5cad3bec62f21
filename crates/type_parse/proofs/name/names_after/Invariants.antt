use Rattle.phrase.specs.Piece.{many}
use Rattle.plc_tokens.specs.Sets.{COMMA}
use Rattle.type_parse.specs.Names.{next_name}
use Rattle.phrase.proofs.Loops.{Going}
use Rattle.type_parse.proofs.name.names_after.Given as goal

abbrev pub invariant-loop-turn : goal.invariant-loop-turn
invariant-loop-turn l = Going COMMA next_name l._turn-end l._turn l.list l.tokens ((many COMMA next_name l.fn.list).run l.fn.tokens)
