use Rattle.std.proofs.Common.{refl, ◌-◌, ℕ, arith}
use Rattle.std.proofs.lemmas.Result.{on_ok_weaker}
use Rattle.std.specs.Vec.{with_item}
use Rattle.circles.specs.declared.walk.Walk.{Walk}
use Rattle.circles.proofs.Walked.{AtTop, step_opens, step_finishes}
use Rattle.circles.proofs.walk.Walk.step.Goals as goal

abbrev looked_on : Walk → ℕ → ℕ → Walk
looked_on w k next = record w { at = with_item w.at k next }

pub returns-then-next-row-clause-steps : goal.returns-then-next-row-clause-steps
returns-then-next-row-clause-steps c =
    let w = c.args.self.now in
    let k = c.len-top.result - 1 in
    let next = c.next_new-next.result in
    let t : AtTop c.args.needs.now w k c.index.result.now c.index-node.result.now c.row-row.result.now c.deref.result.now = record {
      top = omega (arith, c.len-top.ensures, w.stack.ok.0, c.requires.open);
      node_is = c.index-node.ensures;
      row_is = c.row-row.ensures;
      from_is = c.index.ensures;
      place_is = c.deref.ensures.value;
    } in
    on_ok_weaker c.open.result
    (step_opens c.args.needs.now w (looked_on w k next) c.open.new.self k c.index.result.now c.index-node.result.now next c.row-row.result.now c.deref.result.now t c.requires.goes refl refl refl refl c.next_new-next.ensures.passed
    c.if-next-row.true (c.next_new-next.ensures.met c.if-next-row.true)) c.open.ensures

pub returns-else-next-row-clause-steps : goal.returns-else-next-row-clause-steps
returns-else-next-row-clause-steps c =
    let w = c.args.self.now in
    let k = c.len-top.result - 1 in
    let next = c.next_new-next.result in
    let t : AtTop c.args.needs.now w k c.index.result.now c.index-node.result.now c.row-row.result.now c.deref.result.now = record {
      top = omega (arith, c.len-top.ensures, w.stack.ok.0, c.requires.open);
      node_is = c.index-node.ensures;
      row_is = c.row-row.ensures;
      from_is = c.index.ensures;
      place_is = c.deref.ensures.value;
    } in
    on_ok_weaker c.finish.result
    (step_finishes c.args.needs.now w (looked_on w k next) c.finish.new.self k c.index.result.now c.index-node.result.now next c.row-row.result.now c.deref.result.now t c.requires.goes refl refl refl refl c.next_new-next.ensures.passed
    c.if-next-row.false) c.finish.ensures
