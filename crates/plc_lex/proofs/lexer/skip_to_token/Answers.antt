use Rattle.std.proofs.Common.{◌≡◌, ◌-◌, ◌||◌, length, take, drop, sym, ap, ◌∙◌, arith, length-drop}
use Rattle.plc_lex.specs.Tokens.{past_all, has_break, tokens_from}
use Rattle.plc_lex.proofs.CommentsLemmas.{comment-found}
use Rattle.plc_lex.proofs.TokensLemmas.{tokens_from-comment}
use Rattle.plc_lex.proofs.lexer.skip_to_token.Goals as goal

pub after_comment-requires-clause-within : goal.after_comment-requires-clause-within
after_comment-requires-clause-within c = (comment-found c.args.nested c.loop-size.found.rest.now c.in-Some.size (sym c.in-Some.ensures)).size.within

pub loop-size-smaller : goal.loop-size-smaller
loop-size-smaller c =
    let rest = c.loop-size.found.rest.now in
    let size = (comment-found c.args.nested rest c.in-Some.size (sym c.in-Some.ensures)).size in
    let left : length c.after_comment.result.rest.now ≡ length rest - c.in-Some.size = ap length c.after_comment.ensures.rest ∙ length-drop c.in-Some.size rest in
    omega (arith, size.some, size.within, c.skip_blanks-found-in-Some.ensures.within)

pub loop-size-preserved : goal.loop-size-preserved
loop-size-preserved c =
    let nested = c.args.nested in
    let found = c.loop-size.found in
    let rest = found.rest.now in
    let size = c.in-Some.size in
    let is = comment-found nested rest size (sym c.in-Some.ensures) in
    let behind = c.after_comment.result in
    let left : length behind.rest.now ≡ length rest - size = ap length c.after_comment.ensures.rest ∙ length-drop size rest in
    let same : tokens_from nested (drop size rest) (past_all (take size rest) found.place) (found.fresh || has_break (take size rest)) 0 ≡ tokens_from nested behind.rest.now behind.place behind.fresh 0 =
    rw (c.after_comment.ensures.rest, c.after_comment.ensures.place, c.after_comment.ensures.fresh) in
    let next = c.skip_blanks-found-in-Some.ensures in
    record {
      tokens = c.loop-size.invariant.tokens ∙ tokens_from-comment nested rest found.place found.fresh size is.opened is.is ∙ same ∙ next.tokens nested;
      no_blank = next.no_blank;
      room = next.room;
      within = omega (arith, next.within, c.loop-size.invariant.within);
    }
