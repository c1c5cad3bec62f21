use Rattle.std.proofs.Common.{◌≡◌, map, take}
use Rattle.emit_pou.specs.Emitted as spec
use Rattle.emit_pou.proofs.unit.config_parts.Given as goal

abbrev pub invariant-loop-resource : goal.invariant-loop-resource
invariant-loop-resource l = l.parts ≡ map (spec.resource_part l.unit) (take l.resource-index l.config.resources)
