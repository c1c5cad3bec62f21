use Rattle.std.proofs.Common.{◌≡◌, ◌++◌, drop}
use Rattle.plc_top.specs.Plans.{lines_of}
use Rattle.plc_top.proofs.steps.lines_of_names.Given as goal

abbrev pub invariant-loop-text : goal.invariant-loop-text
invariant-loop-text l = l.lines.items ++ lines_of (drop l.text-index l.texts) ≡ lines_of l.texts
