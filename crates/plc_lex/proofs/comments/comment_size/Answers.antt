use Rattle.std.proofs.Common.{◌≡◌, ◌+◌, ◌-◌, ◌&&◌, true, false, drop, sym, ap, ◌∙◌, refl, arith, length-drop}
use Rattle.std.proofs.lemmas.List.{take_rest}
use Rattle.plc_lex.specs.Comments.{opens, closes, comment}
use Rattle.plc_lex.proofs.CommentsLemmas.{two_left, two_left_open, inside-closed, inside-opened, inside-further, comment-step}
use Rattle.plc_lex.proofs.comments.comment_size.Goals as goal
use Rattle.plc_lex.proofs.comments.comment_size.Goals.{else-nested-via-then-nested+else-opens, else-nested-via-else-nested}

pub loop-size-init : goal.loop-size-init
unfolding comment
loop-size-init c = record { value = refl; within = two_left_open c.args.text.now c.requires; around = omega arith }

pub loop-size-preserved-then-closes : goal.loop-size-preserved-then-closes
loop-size-preserved-then-closes c =
    let text = c.args.text.now in
    let size = c.loop-size.size in
    let around = c.loop-size.around in
    let here : closes (drop size text) ≡ true = ap closes (sym (take_rest text size)) ∙ sym c.closes.ensures ∙ c.if-closes.true in
    let left = two_left (drop size text) here in
    record {
      value = comment-step c.args.nested text size around (around - 1) 2 c.loop-size.invariant.value (inside-closed c.args.nested around (drop size text) here (omega arith));
      within = omega (arith, length-drop size text);
      around = omega arith;
    }

pub loop-size-preserved-then-opens : goal.loop-size-preserved-then-opens
loop-size-preserved-then-opens c =
    let text = c.args.text.now in
    let size = c.loop-size.size in
    let around = c.loop-size.around in
    let not_closed : closes (drop size text) ≡ false = ap closes (sym (take_rest text size)) ∙ sym c.closes.ensures ∙ c.if-closes.false in
    let here : opens (drop size text) ≡ true = ap opens (sym (take_rest text size)) ∙ sym c.opens.ensures ∙ c.if-opens.true in
    let left = two_left_open (drop size text) here in
    record {
      value = comment-step c.args.nested text size around (around + 1) 2 c.loop-size.invariant.value
          (inside-opened c.args.nested around (drop size text) not_closed c.if-nested.true here);
      within = omega (arith, length-drop size text);
      around = omega arith;
    }

pub loop-size-preserved : goal.loop-size-preserved
loop-size-preserved c =
    let text = c.args.text.now in
    let size = c.loop-size.size in
    let around = c.loop-size.around in
    let nested = c.args.nested in
    let not_closed : closes (drop size text) ≡ false = ap closes (sym (take_rest text size)) ∙ sym c.closes.ensures ∙ c.if-closes.false in
    let not_opened : (nested && opens (drop size text)) ≡ false =
    elim c.else-nested.branch [
      | else-nested-via-then-nested+else-opens w ↦ rw (w.if-nested.true) (ap opens (sym (take_rest text size)) ∙ sym w.opens.ensures ∙ w.if-opens.false)
      | else-nested-via-else-nested w ↦ rw w.if-nested.false
    ] in
    record {
      value = comment-step nested text size around around 1 c.loop-size.invariant.value (inside-further nested around (drop size text) not_closed not_opened);
      within = omega arith;
      around = omega arith;
    }
