use Rattle.std.proofs.Common.{[]}
use Rattle.phrase.specs.Piece.{many}
use Rattle.plc_tokens.specs.Sets.{NAME}
use Rattle.decl_parse.specs.Sections.{next_any_decl}
use Rattle.phrase.proofs.Loops.{Going}
use Rattle.decl_parse.proofs.section.any_decls.Given as goal

abbrev pub invariant-loop-turn : goal.invariant-loop-turn
invariant-loop-turn l = Going NAME (next_any_decl l.room) l._turn-end l._turn l.decls l.tokens ((many NAME (next_any_decl l.room) []).run l.fn.tokens)
