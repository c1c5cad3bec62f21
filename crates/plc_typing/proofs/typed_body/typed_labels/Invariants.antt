use Rattle.std.proofs.Common.{◌≡◌, map, take}
use Rattle.plc_typing.specs.Typing as spec
use Rattle.plc_typing.proofs.typed_body.typed_labels.Given as goal

abbrev pub invariant-loop-label : goal.invariant-loop-label
invariant-loop-label l = l.items ≡ map spec.typed_label (take l.label-index l.labels)
