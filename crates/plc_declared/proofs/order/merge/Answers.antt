use Rattle.std.proofs.Common.{◌≡◌, sym, ap, ◌∙◌, ◌++◌}
use Rattle.std.proofs.lemmas.Result.{IfOk-weaker}
use Rattle.plc_declared.specs.Order.{merged}
use Rattle.plc_declared.proofs.Ordering.{none_right}
use Rattle.plc_declared.proofs.order.merge.Goals as goal

pub returns-in_default-ys : goal.returns-in_default-ys
returns-in_default-ys c =
    let xs = c.both.xs.now in
    let ys = c.both.ys.now in
    IfOk-weaker c.extended-in_default-ys.result (λ all. all ≡ c.both.items ++ xs) (λ all. all ≡ merged c.args.left.now c.args.right.now)
    (λ all e. e ∙ ap (λ zs. c.both.items ++ zs) (sym (none_right xs ys c.in_default-ys.len_below)) ∙ c.both.invariant) c.extended-in_default-ys.ensures
