use Rattle.std.proofs.Common.{◌≡◌, map, take}
use Rattle.plc_typing.specs.Typing as spec
use Rattle.plc_typing.proofs.typing.typed_resources.Given as goal

abbrev pub invariant-loop-resource : goal.invariant-loop-resource
invariant-loop-resource l = l.items ≡ map (spec.typed_resource l.numbers) (take l.resource-index l.resources)
