use Rattle.std.proofs.Common.{◌≡◌, drop}
use Rattle.std.specs.FinMap as map
use Rattle.plc_outside.specs.Spans.{files_of}
use Rattle.plc_outside.proofs.span.newest.Given as goal

abbrev pub invariant-loop-i : goal.invariant-loop-i
invariant-loop-i l = map.get (files_of l.bytes l.spans.items) l.name ≡ map.get (files_of l.bytes (drop l.i l.spans.items)) l.name
