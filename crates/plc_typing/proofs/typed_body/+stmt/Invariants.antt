use Rattle.std.proofs.Common.{◌≡◌, map, take}
use Rattle.plc_typing.specs.Scope.{types_of}
use Rattle.plc_typing.specs.Typing as spec
use Rattle.plc_typing.specs.TypedParts.{typed_arm, typed_choice}
use Rattle.plc_typing.proofs.typed_body.+stmt.Given as goal

abbrev pub invariant-typed_arms-loop-arm : goal.invariant-typed_arms-loop-arm
invariant-typed_arms-loop-arm l = l.items ≡ map (typed_arm l.numbers (types_of l.scope)) (take l.arm-index l.arms)

abbrev pub invariant-typed_choices-loop-choice : goal.invariant-typed_choices-loop-choice
invariant-typed_choices-loop-choice l = l.items ≡ map (typed_choice l.numbers (types_of l.scope)) (take l.choice-index l.choices)

abbrev pub invariant-typed_stmts-loop-stmt : goal.invariant-typed_stmts-loop-stmt
invariant-typed_stmts-loop-stmt l = l.items ≡ map (spec.typed_stmt l.numbers (types_of l.scope)) (take l.stmt-index l.stmts)
