use Rattle.std.proofs.Common.{◌≡◌, take}
use Rattle.std.specs.List.{flat_map}
use Rattle.emit_pou.specs.Emitted as spec
use Rattle.emit_pou.proofs.pou.functions.Given as goal

abbrev pub invariant-loop-pou : goal.invariant-loop-pou
invariant-loop-pou l = l.items ≡ flat_map spec.pou_functions (take l.pou-index l.pous)
