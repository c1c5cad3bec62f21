use Rattle.std.proofs.Common.{take}
use Rattle.std.specs.List.{flat_map}
use Rattle.plc_needs.specs.Rows.{Grows, numbered_rows}
use Rattle.plc_needs.proofs.graph.items_rows.Given as goal

abbrev pub invariant-loop-item : goal.invariant-loop-item
invariant-loop-item l = Grows l.scopes.declared (flat_map (numbered_rows l.unit) (take l.item-index l.items)) l.initial.needs l.needs
