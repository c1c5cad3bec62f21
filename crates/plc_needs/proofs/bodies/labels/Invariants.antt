use Rattle.std.proofs.Common.{take}
use Rattle.std.specs.List.{flat_map}
use Rattle.plc_names.specs.Needs.{label_needs}
use Rattle.plc_needs.specs.Row.{Adds}
use Rattle.plc_needs.proofs.bodies.labels.Given as goal

abbrev pub invariant-loop-l : goal.invariant-loop-l
invariant-loop-l l = Adds l.scopes.declared (flat_map label_needs (take l.l-index l.labels)) l.initial.row.items l.row.items
