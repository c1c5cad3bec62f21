use Rattle.std.proofs.Common.{◌≡◌, drop}
use Rattle.plc_outside.specs.Calls.{world}
use Rattle.plc_top.specs.Plans.{puts_of}
use Rattle.plc_top.proofs.Loops.{MadeSoFar}
use Rattle.plc_top.proofs.steps.put_all.Given as goal

abbrev pub invariant-loop-text : goal.invariant-loop-text
invariant-loop-text g l =
    MadeSoFar (puts_of l.texts) (puts_of (drop l.text-index l.texts))
    (world (g.F.Files.seen l.initial.files) (g.O.Console.seen l.initial.console))
    (world (g.F.Files.seen l.files) (g.O.Console.seen l.console))
    × (l.complaint ≡ l.initial.complaint)
