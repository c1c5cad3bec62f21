use Rattle.std.proofs.Common.{◌≡◌, flat_map, take}
use Rattle.c_tree.specs.Layout.{put_all}
use Rattle.c_tree.specs.Spelling as spec
use Rattle.c_tree.proofs.printer.Printer.+item.Given as goal

abbrev pub invariant-items-loop-item : goal.invariant-items-loop-item
invariant-items-loop-item l = l.self ≡ put_all l.initial.self (flat_map spec.item_pieces (take l.item-index l.items))
