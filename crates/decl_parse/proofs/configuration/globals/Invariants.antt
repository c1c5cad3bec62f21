use Rattle.std.proofs.Common.{[]}
use Rattle.phrase.specs.Piece.{many}
use Rattle.plc_tokens.specs.Sets.{VAR_GLOBAL}
use Rattle.decl_parse.specs.Sections.{next_globals}
use Rattle.phrase.proofs.Loops.{Going}
use Rattle.decl_parse.proofs.configuration.globals.Given as goal

abbrev pub invariant-loop-turn : goal.invariant-loop-turn
invariant-loop-turn l = Going VAR_GLOBAL (next_globals l.room) l._turn-end l._turn l.sections l.tokens ((many VAR_GLOBAL (next_globals l.room) []).run l.fn.tokens)
