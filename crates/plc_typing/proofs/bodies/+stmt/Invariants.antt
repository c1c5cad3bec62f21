use Rattle.std.proofs.Common.{take}
use Rattle.std.specs.List.{flat_map}
use Rattle.plc_base.specs.Least.{Meets}
use Rattle.plc_typing.specs.Scope.{types_of}
use Rattle.plc_typing.specs.Uses.{stmt_faults}
use Rattle.plc_typing.specs.UsesOfParts.{arm_faults, choice_faults}
use Rattle.plc_typing.proofs.bodies.+stmt.Given as goal

abbrev pub invariant-if_arms-loop-arm : goal.invariant-if_arms-loop-arm
invariant-if_arms-loop-arm l = Meets (flat_map (arm_faults (types_of l.scope) l.inside) (take l.arm-index l.arms)) l.initial.met l.met

abbrev pub invariant-case_arms-loop-choice : goal.invariant-case_arms-loop-choice
invariant-case_arms-loop-choice l = Meets (flat_map (choice_faults (types_of l.scope) l.inside) (take l.choice-index l.choices)) l.initial.met l.met

abbrev pub invariant-stmts-loop-s : goal.invariant-stmts-loop-s
invariant-stmts-loop-s l = Meets (flat_map (stmt_faults (types_of l.scope) l.inside) (take l.s-index l.stmts)) l.initial.met l.met
