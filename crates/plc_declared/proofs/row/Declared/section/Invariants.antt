use Rattle.std.proofs.Common.{◌≡◌, take, map}
use Rattle.plc_names.specs.Declarations.{OfVars}
use Rattle.plc_declared.specs.Row.{added}
use Rattle.plc_declared.proofs.row.Declared.section.Given as goal

abbrev pub invariant-loop-decl : goal.invariant-loop-decl
invariant-loop-decl l = l.self ≡ added l.own l.initial.self (map (OfVars l.scope l.section) (take l.decl-index l.section.decls))
