use Rattle.std.proofs.Common.{◌≡◌, take}
use Rattle.c_tree.specs.Spelling.{behind_commas}
use Rattle.c_tree.specs.Layout.{put_all}
use Rattle.c_tree.specs.Spelling as spec
use Rattle.c_tree.proofs.printer.Printer.later_params.Given as goal

abbrev pub invariant-loop-param : goal.invariant-loop-param
invariant-loop-param l = l.self ≡ put_all l.initial.self (behind_commas spec.param_pieces (take l.param-index l.params))
