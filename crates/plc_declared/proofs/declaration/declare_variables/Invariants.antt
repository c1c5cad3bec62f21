use Rattle.std.proofs.Common.{◌≡◌, ◌++◌, map, take}
use Rattle.plc_names.specs.Declarations.{variable_declared}
use Rattle.plc_declared.proofs.declaration.declare_variables.Given as goal

abbrev pub invariant-loop-id : goal.invariant-loop-id
invariant-loop-id l = l.names ≡ l.initial.names ++ map (variable_declared l.spot.own l.spot.next l.spot.scope l.spot.section.now l.decl.spec) (take l.id-index l.decl.names)
