use Rattle.std.proofs.Common.{◌≡◌, flat_map, take}
use Rattle.c_tree.specs.Layout.{put_all}
use Rattle.c_tree.specs.Spelling as spec
use Rattle.c_tree.proofs.printer.Printer.dims.Given as goal

abbrev pub invariant-loop-dim : goal.invariant-loop-dim
invariant-loop-dim l = l.self ≡ put_all l.initial.self (flat_map spec.dim_pieces (take l.dim-index l.dims))
