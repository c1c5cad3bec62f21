use Rattle.std.proofs.Common.{take}
use Rattle.std.specs.List.{list_any}
use Rattle.std.specs.Str.{bytes_eq}
use Rattle.plc_scopes.specs.Lists.{Notes}
use Rattle.plc_scopes.proofs.owners.Owners.add_all.Given as goal

abbrev pub invariant-loop-value : goal.invariant-loop-value
invariant-loop-value l = Notes (λ m. list_any (bytes_eq m) (take l.value-index l.values)) l.number l.initial.self.names l.initial.self.lists.items l.self.names l.self.lists.items
