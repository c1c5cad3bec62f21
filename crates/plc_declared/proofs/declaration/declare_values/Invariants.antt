use Rattle.std.proofs.Common.{◌≡◌, ◌++◌, map, take}
use Rattle.plc_names.specs.Declarations.{value_declared}
use Rattle.plc_declared.proofs.declaration.declare_values.Given as goal

abbrev pub invariant-loop-id : goal.invariant-loop-id
invariant-loop-id l = l.names ≡ l.initial.names ++ map (value_declared l.own l.ty) (take l.id-index l.values)
