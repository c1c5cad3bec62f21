use Rattle.std.proofs.Common.{[]}
use Rattle.phrase.specs.Piece.{many}
use Rattle.plc_tokens.specs.Sets.{TASK}
use Rattle.decl_parse.specs.Configurations.{next_task}
use Rattle.phrase.proofs.Loops.{Going}
use Rattle.decl_parse.proofs.configuration.tasks.Given as goal

abbrev pub invariant-loop-turn : goal.invariant-loop-turn
invariant-loop-turn l = Going TASK next_task l._turn-end l._turn l.tasks l.tokens ((many TASK next_task []).run l.fn.tokens)
