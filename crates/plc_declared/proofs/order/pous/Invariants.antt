use Rattle.std.proofs.Common.{◌≡◌, map, take, Some}
use Rattle.std.specs.List.{enumerate_from}
use Rattle.plc_names.specs.Items.{pou_item}
use Rattle.plc_declared.specs.Order.{seen}
use Rattle.plc_declared.proofs.order.pous.Given as goal

abbrev pub invariant-loop-k : goal.invariant-loop-k
invariant-loop-k l = map (seen l.unit) l.items ≡ map Some (map pou_item (take l.k (enumerate_from 0 l.unit.pous)))
