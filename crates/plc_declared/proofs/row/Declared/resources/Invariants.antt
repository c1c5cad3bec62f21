use Rattle.std.proofs.Common.{◌≡◌, take}
use Rattle.std.specs.List.{flat_map, enumerate_from}
use Rattle.plc_names.specs.Declarations.{resource_entries}
use Rattle.plc_declared.specs.Row.{added}
use Rattle.plc_declared.proofs.row.Declared.resources.Given as goal

abbrev pub invariant-loop-k : goal.invariant-loop-k
invariant-loop-k l = l.self ≡ added l.own l.initial.self (flat_map (resource_entries l.scope) (take l.k (enumerate_from l.first l.resources)))
