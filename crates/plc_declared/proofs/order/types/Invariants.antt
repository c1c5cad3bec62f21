use Rattle.std.proofs.Common.{◌≡◌, map, take, Some}
use Rattle.plc_names.specs.Items.{type_item}
use Rattle.plc_declared.specs.Order.{seen}
use Rattle.plc_declared.proofs.order.types.Given as goal

abbrev pub invariant-loop-k : goal.invariant-loop-k
invariant-loop-k l = map (seen l.unit) l.items ≡ map Some (map type_item (take l.k l.unit.types))
