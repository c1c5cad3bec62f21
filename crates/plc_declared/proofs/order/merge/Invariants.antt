use Rattle.std.proofs.Common.{◌≡◌, ◌+◌, ◌++◌, length}
use Rattle.plc_declared.specs.Order.{merged}
use Rattle.plc_declared.proofs.order.merge.Given as goal

abbrev pub invariant-both : goal.invariant-both
invariant-both l = l.items ++ merged l.xs l.ys ≡ merged l.left l.right

abbrev pub decreases-both : goal.decreases-both
decreases-both l = length l.xs + length l.ys
