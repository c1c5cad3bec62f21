use Rattle.phrase.specs.Piece.{many}
use Rattle.plc_tokens.specs.Sets.{PROGRAM}
use Rattle.decl_parse.specs.Configurations.{next_inst}
use Rattle.phrase.proofs.Loops.{Going}
use Rattle.decl_parse.proofs.configuration.more_insts.Given as goal

abbrev pub invariant-loop-turn : goal.invariant-loop-turn
invariant-loop-turn l = Going PROGRAM next_inst l._turn-end l._turn l.insts l.tokens ((many PROGRAM next_inst l.fn.insts).run l.fn.tokens)
