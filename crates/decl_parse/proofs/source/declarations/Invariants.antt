use Rattle.phrase.specs.Piece.{many}
use Rattle.plc_tokens.specs.Sets.{DECLARATION}
use Rattle.decl_parse.specs.Sources.{nothing, next_declaration}
use Rattle.phrase.proofs.Loops.{Going}
use Rattle.decl_parse.proofs.source.declarations.Given as goal

abbrev pub invariant-loop-turn : goal.invariant-loop-turn
invariant-loop-turn l = Going DECLARATION (next_declaration l.room) l._turn-end l._turn l.unit l.tokens ((many DECLARATION (next_declaration l.room) nothing).run l.fn.tokens)
