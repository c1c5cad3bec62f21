use Rattle.std.proofs.Common.{◌≡◌, take}
use Rattle.c_tree.specs.Layout.{put_all}
use Rattle.c_tree.specs.Spelling.{behind_commas}
use Rattle.c_tree.specs.Spelling as spec
use Rattle.c_tree.proofs.printer.Printer.numbers.Given as goal

abbrev pub invariant-loop-number : goal.invariant-loop-number
invariant-loop-number l = l.self ≡ put_all l.initial.self (behind_commas spec.int_pieces (take l.number-index l.numbers))
