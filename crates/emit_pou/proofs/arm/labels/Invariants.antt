use Rattle.std.proofs.Common.{◌≡◌, map, take}
use Rattle.emit_pou.specs.Statements as spec
use Rattle.emit_pou.proofs.arm.labels.Given as goal

abbrev pub invariant-loop-l : goal.invariant-loop-l
invariant-loop-l s = s.items ≡ map (spec.label s.ty) (take s.l-index s.labels)
