use Rattle.std.proofs.Common.{take}
use Rattle.std.specs.List.{flat_map}
use Rattle.plc_names.specs.Needs.{stmt_needs}
use Rattle.plc_needs.specs.Own.{has}
use Rattle.plc_needs.specs.Parts.{arm_needs, choice_needs}
use Rattle.plc_needs.specs.Row.{Adds}
use Rattle.plc_needs.proofs.bodies.+stmt.Given as goal

abbrev pub invariant-arms-loop-arm : goal.invariant-arms-loop-arm
invariant-arms-loop-arm l = Adds l.scopes.declared (flat_map (arm_needs (has l.own)) (take l.arm-index l.arms)) l.initial.row.items l.row.items

abbrev pub invariant-choices-loop-choice : goal.invariant-choices-loop-choice
invariant-choices-loop-choice l = Adds l.scopes.declared (flat_map (choice_needs (has l.own)) (take l.choice-index l.choices)) l.initial.row.items l.row.items

abbrev pub invariant-stmts-loop-s : goal.invariant-stmts-loop-s
invariant-stmts-loop-s l = Adds l.scopes.declared (flat_map (stmt_needs (has l.own)) (take l.s-index l.stmts)) l.initial.row.items l.row.items
