use Rattle.std.proofs.Common.{◌≡◌, take}
use Rattle.std.specs.List.{flat_map}
use Rattle.plc_typing.specs.Typing as spec
use Rattle.plc_typing.proofs.typing.typed_sections.Given as goal

abbrev pub invariant-loop-section : goal.invariant-loop-section
invariant-loop-section l = l.vars ≡ flat_map (spec.typed_section l.numbers) (take l.section-index l.sections)
