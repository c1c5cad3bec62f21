use Rattle.phrase.specs.Piece.{many}
use Rattle.plc_tokens.specs.Sets.{RESOURCE}
use Rattle.decl_parse.specs.Configurations.{next_resource}
use Rattle.phrase.proofs.Loops.{Going}
use Rattle.decl_parse.proofs.configuration.more_resources.Given as goal

abbrev pub invariant-loop-turn : goal.invariant-loop-turn
invariant-loop-turn l = Going RESOURCE (next_resource l.room) l._turn-end l._turn l.resources l.tokens ((many RESOURCE (next_resource l.room) l.fn.resources).run l.fn.tokens)
