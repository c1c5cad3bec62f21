use Rattle.std.proofs.Common.{take}
use Rattle.circles.specs.Gathered.{TakesIn}
use Rattle.circles.proofs.gathered.take_in.Given as goal

abbrev pub invariant-loop-node : goal.invariant-loop-node
invariant-loop-node l = TakesIn (take l.node-index l.row) l.number l.initial.under.items l.initial.queue.items l.under.items l.queue.items
