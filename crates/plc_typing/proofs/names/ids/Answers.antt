use Rattle.std.proofs.Common.{sym, ap, ◌∙◌, ◌∷◌, [], ◌++◌, ◌+◌, take}
use Rattle.std.proofs.lemmas.List.{take_more}
use Rattle.plc_typing.proofs.Declaring.{declares_as, declares_then}
use Rattle.plc_typing.proofs.names.ids.Goals as goal

pub loop-id-preserved : goal.loop-id-preserved
loop-id-preserved c =
    let ids = c.args.ids.now in
    let k = c.loop-id.id-index in
    let id = c.id-item.result in
    declares_as (take k ids ++ id ∷ []) (take (k + 1) ids) c.args.numbers.now c.declare.new.numbers c.args.met.now c.declare.new.met
    (sym (take_more ids k id c.loop-id-test.true ∙ ap (λ x. take k ids ++ x ∷ []) (sym c.id-item.is)))
    (declares_then (take k ids) (id ∷ []) c.args.numbers.now c.loop-id.numbers c.declare.new.numbers c.args.met.now c.loop-id.met c.declare.new.met c.loop-id.invariant c.in_ok-declare.ensures)
