use Rattle.std.proofs.Common.{◌≡◌, flat_map, take}
use Rattle.c_tree.specs.Layout.{put_all}
use Rattle.c_tree.specs.Spelling as spec
use Rattle.c_tree.proofs.printer.Printer.locals.Given as goal

abbrev pub invariant-loop-local : goal.invariant-loop-local
invariant-loop-local l = l.self ≡ put_all l.initial.self (flat_map spec.local_pieces (take l.local-index l.locals))
