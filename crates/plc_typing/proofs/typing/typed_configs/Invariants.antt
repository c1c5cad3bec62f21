use Rattle.std.proofs.Common.{◌≡◌, map, take}
use Rattle.plc_typing.specs.Typing as spec
use Rattle.plc_typing.proofs.typing.typed_configs.Given as goal

abbrev pub invariant-loop-config : goal.invariant-loop-config
invariant-loop-config l = l.items ≡ map (spec.typed_config l.numbers) (take l.config-index l.configs)
