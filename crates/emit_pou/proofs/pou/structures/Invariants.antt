use Rattle.std.proofs.Common.{◌≡◌, map, take}
use Rattle.emit_pou.specs.Emitted as spec
use Rattle.emit_pou.proofs.pou.structures.Given as goal

abbrev pub invariant-loop-pou : goal.invariant-loop-pou
invariant-loop-pou l = l.items ≡ map spec.pou_struct (take l.pou-index l.pous)
