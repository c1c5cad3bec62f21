use Rattle.std.proofs.Common.{◌≡◌, ◌∷◌, true, false, map, take}
use Rattle.c_tree.specs.Printing as spec
use Rattle.c_tree.proofs.printing.print_from.Given as goal

abbrev pub invariant-loop-part : goal.invariant-loop-part
invariant-loop-part l = l.texts.items ≡ spec.part_text true l.first ∷ map (spec.part_text false) (take l.part-index l.later)
