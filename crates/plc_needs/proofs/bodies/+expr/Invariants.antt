use Rattle.std.proofs.Common.{take}
use Rattle.std.specs.List.{flat_map}
use Rattle.plc_names.specs.Needs.{expr_needs, part_needs, arg_needs}
use Rattle.plc_needs.specs.Own.{has}
use Rattle.plc_needs.specs.Row.{Adds}
use Rattle.plc_needs.proofs.bodies.+expr.Given as goal

abbrev pub invariant-exprs-loop-e : goal.invariant-exprs-loop-e
invariant-exprs-loop-e l = Adds l.scopes.declared (flat_map (expr_needs (has l.own)) (take l.e-index l.exprs)) l.initial.row.items l.row.items

abbrev pub invariant-parts-loop-p : goal.invariant-parts-loop-p
invariant-parts-loop-p l = Adds l.scopes.declared (flat_map (part_needs (has l.own)) (take l.p-index l.parts)) l.initial.row.items l.row.items

abbrev pub invariant-args-loop-a : goal.invariant-args-loop-a
invariant-args-loop-a l = Adds l.scopes.declared (flat_map (arg_needs (has l.own)) (take l.a-index l.args)) l.initial.row.items l.row.items
