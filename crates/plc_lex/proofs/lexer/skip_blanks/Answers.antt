use Rattle.std.proofs.Common.{◌≡◌, ◌+◌, ◌-◌, ◌<◌, ◌||◌, ◌==◌, Bool, length, drop, get_or, sym, subst, ap, refl, ◌∙◌, arith}
use Rattle.plc_lex.specs.Tokens.{HasRoom, tokens_from, past}
use Rattle.plc_lex.proofs.TokensLemmas.{tokens_from-blank_at, HasRoom-past}
use Rattle.plc_lex.proofs.lexer.skip_blanks.Goals as goal
use Rattle.plc_lex.proofs.lexer.skip_blanks.Goals.{then-fresh, else-fresh}

pub loop-i-preserved : goal.loop-i-preserved
loop-i-preserved c =
    let rest = c.args.cursor.rest.now in
    let i = c.loop-i.i in
    let b = get_or rest i 0 in
    let here : i < length rest = omega arith in
    let less : length rest - i ≡ length rest - (i + 1) + 1 = omega arith in
    let fresh : c.if-fresh.fresh ≡ (c.loop-i.fresh || (b == 10)) = elim c.if-fresh.branch [ then-fresh w ↦ rw (w.fresh-is, w.if-fresh.true) | else-fresh w ↦ rw (w.fresh-is, w.if-fresh.false) ] in
    let step = λ (nested : Bool). tokens_from-blank_at nested rest i b c.loop-i.place c.loop-i.fresh here refl (sym c.is_blank.ensures ∙ c.if-not-is_blank.false) in
    record {
      tokens = λ nested. c.loop-i.invariant.tokens nested ∙ step nested ∙ ap (λ f. tokens_from nested (drop (i + 1) rest) (past b c.loop-i.place) f 0) (sym fresh)
          ∙ ap (λ p. tokens_from nested (drop (i + 1) rest) p c.if-fresh.fresh 0) (sym c.past-place.ensures);
      room = subst (λ p. HasRoom p (length rest - (i + 1))) (sym c.past-place.ensures)
          (HasRoom-past b c.loop-i.place (length rest - (i + 1)) (subst (HasRoom c.loop-i.place) less c.loop-i.invariant.room));
    }
