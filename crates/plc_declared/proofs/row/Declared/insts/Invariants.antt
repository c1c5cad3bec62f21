use Rattle.std.proofs.Common.{◌≡◌, take, map}
use Rattle.plc_names.specs.Declarations.{OfInst}
use Rattle.plc_declared.specs.Row.{added}
use Rattle.plc_declared.proofs.row.Declared.insts.Given as goal

abbrev pub invariant-loop-inst : goal.invariant-loop-inst
invariant-loop-inst l = l.self ≡ added l.own l.initial.self (map (OfInst l.scope) (take l.inst-index l.insts))
