use Rattle.std.proofs.Common.{◌≡◌, ◌<◌, ℕ, sym, ap, refl, ◌∙◌, ◌+◌, ◌++◌, ◌∷◌, [], length, get_or, set, take, inl, inr, arith, Vec, Global}
use Rattle.circles.specs.Walk.{new}
use Rattle.circles.proofs.Walked.{same_get}
use Rattle.circles.proofs.Gathering.{same_takes, takes_skip, takes_one}
use Rattle.circles.proofs.gathered.take_in.Goals.{then-at-len+then-index+in_ok-push, else-at-len, else-at-len-via-then-at-len+else-index, else-at-len-via-else-at-len}
use Rattle.circles.proofs.gathered.take_in.Goals as goal

pub loop-node-preserved : goal.loop-node-preserved
loop-node-preserved c =
    let row = c.args.row.now in
    let i = c.loop-node.node-index in
    let x = get_or row i 0 in
    let u = c.args.under.now.items in
    let q = c.args.queue.now.items in
    let later = c.loop-node.under.items in
    let longer = c.loop-node.queue.items in
    let t = c.loop-node.invariant in
    let items = λ (v : Vec ℕ Global). v.items in
    elim c.if-at-len.branch [
      | then-at-len+then-index+in_ok-push w ↦
          let lt : x < length later = omega (arith, w.if-at-len.true, c.len.ensures, c.loop-node.under.ok.0) in
          let was : get_or later x 0 ≡ new = sym (same_get later x w.index.result.now lt w.index.ensures) ∙ w.if-index.true in
          same_takes (take (i + 1) row) c.args.number u q (set later x c.args.number) (longer ++ x ∷ []) c.if-at-len.under.items c.if-at-len.queue.items
          (ap items w.under-is) (ap items w.queue-is ∙ w.in_ok-push.ensures.items)
          (takes_one row u q later longer c.args.number i x t c.loop-node-test.true refl c.requires lt was)
      | else-at-len w ↦
          same_takes (take (i + 1) row) c.args.number u q later longer c.if-at-len.under.items c.if-at-len.queue.items (ap items w.under-is) (ap items w.queue-is)
          (takes_skip row u q later longer c.args.number i x t c.loop-node-test.true refl
          (elim w.else-at-len.branch [
            | else-at-len-via-then-at-len+else-index v ↦
                let lt : x < length later = omega (arith, v.if-at-len.true, c.len.ensures, c.loop-node.under.ok.0) in
                inr (λ e. v.if-index.false (same_get later x v.index.result.now lt v.index.ensures ∙ e))
            | else-at-len-via-else-at-len v ↦ inl (omega (arith, v.if-at-len.false, c.len.ensures, c.loop-node.under.ok.0))
          ]))
    ]
