use Rattle.std.proofs.Common.{◌≡◌, map, take}
use Rattle.plc_names.specs.Declarations as spec
use Rattle.plc_declared.proofs.made.names_of.Given as goal

abbrev pub invariant-loop-id : goal.invariant-loop-id
invariant-loop-id l = l.names ≡ map spec.name_of (take l.id-index l.ids)
