use Rattle.std.proofs.Common.{◌≡◌, take}
use Rattle.std.specs.List.{flat_map}
use Rattle.emit_pou.specs.Emitted as spec
use Rattle.emit_pou.proofs.unit.all_config_parts.Given as goal

abbrev pub invariant-loop-config : goal.invariant-loop-config
invariant-loop-config l = l.parts ≡ flat_map (spec.config_parts l.unit) (take l.config-index l.unit.configs)
