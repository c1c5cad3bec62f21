use Rattle.std.proofs.Common.{◌≡◌, take}
use Rattle.std.specs.List.{flat_map}
use Rattle.plc_typing.specs.Typing as spec
use Rattle.plc_typing.proofs.typing.typed_section.Given as goal

abbrev pub invariant-loop-decl : goal.invariant-loop-decl
invariant-loop-decl l = l.vars ≡ flat_map (spec.typed_decl l.numbers l.section) (take l.decl-index l.section.decls)
