use Rattle.phrase.specs.Piece.{many}
use Rattle.plc_tokens.specs.Sets.{NAME}
use Rattle.type_parse.specs.Types.{next_field}
use Rattle.phrase.proofs.Loops.{Going}
use Rattle.type_parse.proofs.definition.more_fields.Given as goal

abbrev pub invariant-loop-turn : goal.invariant-loop-turn
invariant-loop-turn l = Going NAME (next_field l.room) l._turn-end l._turn l.list l.tokens ((many NAME (next_field l.room) l.fn.list).run l.fn.tokens)
