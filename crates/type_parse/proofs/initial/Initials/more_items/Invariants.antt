use Rattle.phrase.specs.Piece.{many}
use Rattle.plc_tokens.specs.Sets.{COMMA}
use Rattle.type_parse.specs.Depth.{inner}
use Rattle.type_parse.specs.Initials.{next_item}
use Rattle.phrase.proofs.Loops.{Going}
use Rattle.type_parse.proofs.initial.Initials.more_items.Given as goal

abbrev pub invariant-loop-turn : goal.invariant-loop-turn
invariant-loop-turn g l = Going COMMA (next_item (inner l.self.room)) l._turn-end l._turn l.list l.tokens ((many COMMA (next_item (inner l.self.room)) l.fn.list).run l.fn.tokens)
