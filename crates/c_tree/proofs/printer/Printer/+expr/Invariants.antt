use Rattle.std.proofs.Common.{◌≡◌, flat_map, take}
use Rattle.c_tree.specs.Layout.{put_all}
use Rattle.c_tree.specs.Spelling.{behind_commas}
use Rattle.c_tree.specs.Spelling as spec
use Rattle.c_tree.proofs.printer.Printer.+expr.Given as goal

abbrev pub invariant-sels-loop-sel : goal.invariant-sels-loop-sel
invariant-sels-loop-sel l = l.self ≡ put_all l.initial.self (flat_map spec.sel_pieces (take l.sel-index l.sels))

abbrev pub invariant-args-loop-arg : goal.invariant-args-loop-arg
invariant-args-loop-arg l = l.self ≡ put_all l.initial.self (behind_commas spec.arg_pieces (take l.arg-index l.rest))
