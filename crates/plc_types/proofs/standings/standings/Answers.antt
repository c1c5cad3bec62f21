use Rattle.std.proofs.Common.{ap, ◌∙◌, length, get_or, slice_set}
use Rattle.std.proofs.lemmas.List.{take_all}
use Rattle.plc_types.specs.Standings.{nothing, stands_for, found_along}
use Rattle.plc_types.proofs.FoundAlong.{along-more}
use Rattle.plc_types.proofs.Linked.{stands_in}
use Rattle.plc_types.proofs.standings.standings.Goals as goal

pub loop-number-preserved : goal.loop-number-preserved
loop-number-preserved c =
    let ds = c.args.scopes.now.declared in
    let circular = c.args.circles.now.circular in
    let number = get_or c.order-order.result.now c.loop-number.number-index 0 in
    along-more ds circular (nothing (length ds)) c.loop-number.found.items c.put.new.found.items c.order-order.result.now c.loop-number.number-index c.loop-number-test.true c.loop-number.invariant
    (c.put.ensures ∙ ap (slice_set c.loop-number.found.items number) (c.stands_for-standing.ensures ∙ ap (λ f. stands_for ds circular f number) c.as_slice.ensures.value))

pub returns-clause-stands : goal.returns-clause-stands
returns-clause-stands c = λ library u is tells name.
    let ds = c.args.scopes.now.declared in
    let answer = c.args.circles.now in
    let order = c.order-order.result.now in
    stands_in library u ds answer c.loop-number.found.items is tells
    (c.loop-number.invariant ∙ ap (found_along ds answer.circular (nothing (length ds))) (take_all c.loop-number.number-index order c.loop-number-test.false ∙ c.order-order.ensures)) name
