use Rattle.std.proofs.Common.{◌≡◌, map, take}
use Rattle.std.specs.List.{flat_map}
use Rattle.emit_pou.specs.Statements as spec
use Rattle.emit_pou.proofs.statement.+stmt.Given as goal

abbrev pub invariant-block-loop-stmt : goal.invariant-block-loop-stmt
invariant-block-loop-stmt l = l.items ≡ flat_map (spec.c_stmt l.vars) (take l.stmt-index l.stmts)

abbrev pub invariant-arms-loop-a : goal.invariant-arms-loop-a
invariant-arms-loop-a l = l.items ≡ map (spec.arm_of l.vars) (take l.a-index l.list)

abbrev pub invariant-choices-loop-c : goal.invariant-choices-loop-c
invariant-choices-loop-c l = l.items ≡ flat_map (spec.choice_of l.vars l.ty) (take l.c-index l.list)
