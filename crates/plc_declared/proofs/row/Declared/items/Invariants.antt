use Rattle.std.proofs.Common.{◌≡◌, take}
use Rattle.std.specs.List.{flat_map}
use Rattle.plc_declared.specs.Row.{added, numbered_entries}
use Rattle.plc_declared.proofs.row.Declared.items.Given as goal

abbrev pub invariant-loop-item : goal.invariant-loop-item
invariant-loop-item l = l.self ≡ added l.scopes.own l.initial.self (flat_map (numbered_entries l.scopes.first l.scopes.config l.unit) (take l.item-index l.items))
