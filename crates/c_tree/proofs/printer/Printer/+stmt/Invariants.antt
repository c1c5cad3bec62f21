use Rattle.std.proofs.Common.{◌≡◌, flat_map, take}
use Rattle.c_tree.specs.Layout.{put_all}
use Rattle.c_tree.specs.Spelling as spec
use Rattle.c_tree.proofs.printer.Printer.+stmt.Given as goal

abbrev pub invariant-stmts-loop-stmt : goal.invariant-stmts-loop-stmt
invariant-stmts-loop-stmt l = l.self ≡ put_all l.initial.self (flat_map spec.stmt_pieces (take l.stmt-index l.stmts))
