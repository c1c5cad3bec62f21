use Rattle.std.proofs.Common.{rules, ◌<◌, ◌≤◌, length, sym, ◌∙◌, true, false}
use Rattle.plc_outside.proofs.SpanLemmas.{newest_is, none_newest}
use Rattle.plc_outside.proofs.span.newest.Goals as goal

pub returns-then-eq-clause-content : goal.returns-then-eq-clause-content
returns-then-eq-clause-content c =
    let lt : c.loop-i.i < length c.args.spans.now.items = search rules in
    sym (c.loop-i.invariant
    ∙ newest_is c.args.bytes.now c.args.name.now c.args.spans.now.items c.loop-i.i c.index-span.result.now true lt c.index-span.ensures (sym c.if-eq.true ∙ c.eq.ensures))

pub loop-i-preserved : goal.loop-i-preserved
loop-i-preserved c =
    let lt : c.loop-i.i < length c.args.spans.now.items = search rules in
    c.loop-i.invariant
    ∙ newest_is c.args.bytes.now c.args.name.now c.args.spans.now.items c.loop-i.i c.index-span.result.now false lt c.index-span.ensures (sym c.if-eq.false ∙ c.eq.ensures)

pub returns-clause-content : goal.returns-clause-content
returns-clause-content c =
    let le : length c.args.spans.now.items ≤ c.loop-i.i = search rules in
    sym (c.loop-i.invariant ∙ none_newest c.args.bytes.now c.args.name.now c.args.spans.now.items c.loop-i.i le)
