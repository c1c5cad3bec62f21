use Rattle.std.proofs.Common.{◌++◌}
use Rattle.plc_names.specs.Needs.{path_needs, expr_needs, step_needs}
use Rattle.plc_needs.specs.Own.{has}
use Rattle.plc_needs.proofs.Adding.{adds_next}
use Rattle.plc_needs.proofs.bodies.for_head.Goals as goal

pub returns : goal.returns
returns c =
    let ds = c.args.scopes.now.declared in
    let own = has c.args.own.now in
    let r = c.step.result in
    let var = path_needs own c.args.variable.now in
    let start = expr_needs own c.args.start.now in
    let limit = expr_needs own c.args.limit.now in
    let step = step_needs own c.args.by.now in
    let a = c.path.new.row.items in
    let b = c.expr.new.row.items in
    let d = c.expr-2.new.row.items in
    let z = c.step.new.row.items in
    adds_next ds r var (start ++ (limit ++ step)) c.args.row.now.items a z c.in_ok-path.ensures
    (adds_next ds r start (limit ++ step) a b z c.in_ok-expr.ensures (adds_next ds r limit step b d z c.in_ok-expr-2.ensures c.step.ensures))
