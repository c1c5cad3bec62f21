use Rattle.std.proofs.Common.{[]}
use Rattle.phrase.specs.Piece.{many}
use Rattle.plc_tokens.specs.Sets.{UNIT_SECTION}
use Rattle.decl_parse.specs.Sections.{next_block_section}
use Rattle.phrase.proofs.Loops.{Going}
use Rattle.decl_parse.proofs.unit.block_sections.Given as goal

abbrev pub invariant-loop-turn : goal.invariant-loop-turn
invariant-loop-turn l = Going UNIT_SECTION (next_block_section l.room) l._turn-end l._turn l.sections l.tokens ((many UNIT_SECTION (next_block_section l.room) []).run l.fn.tokens)
