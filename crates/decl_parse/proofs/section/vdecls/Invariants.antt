use Rattle.std.proofs.Common.{[]}
use Rattle.phrase.specs.Piece.{many}
use Rattle.plc_tokens.specs.Sets.{NAME}
use Rattle.decl_parse.specs.Sections.{next_vdecl}
use Rattle.phrase.proofs.Loops.{Going}
use Rattle.decl_parse.proofs.section.vdecls.Given as goal

abbrev pub invariant-loop-turn : goal.invariant-loop-turn
invariant-loop-turn l = Going NAME (next_vdecl l.room) l._turn-end l._turn l.decls l.tokens ((many NAME (next_vdecl l.room) []).run l.fn.tokens)
