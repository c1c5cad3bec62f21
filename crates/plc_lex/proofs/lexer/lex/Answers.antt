use Rattle.std.proofs.Common.{◌≡◌, ◌-◌, List, [], ◌∷◌, ◌++◌, false, true, length, take, drop, sym, ap, subst, ◌∙◌, arith, length-drop, append_assoc}
use Rattle.plc_tokens.specs.declared.token.Token.{Token}
use Rattle.plc_lex.specs.Tokens.{HasRoom, tokens_from, lexed, start, token, numbered, past_all, ends}
use Rattle.plc_lex.proofs.TokensLemmas.{front-within, tokens_from-last, tokens_from-next}
use Rattle.plc_lex.proofs.lexer.lex.Goals as goal

pub loop-tokens-init : goal.loop-tokens-init
unfolding lexed
loop-tokens-init c =
    let text = c.args.text.now in
    let nested = c.args.nested in
    let room : HasRoom (start c.args.file) (length text) = record { line = omega arith; col = omega arith; token = omega arith } in
    record {
      tokens = ap (λ p. tokens_from nested text p false 0) (sym c.start.ensures) ∙ ap (λ ts. ts ++ tokens_from nested text c.start.result false 0) (sym c.new-tokens.ensures.items);
      room = subst (λ p. HasRoom p (length text)) (sym c.start.ensures) room;
    }

pub token_of-requires-clause-within : goal.token_of-requires-clause-within
token_of-requires-clause-within c = λ more. (front-within c.skip_to_token-found.result.rest.now c.in_ok-kind.kind c.in_ok-kind.size c.in_ok-kind.ensures more).within

pub token_of-requires-clause-some : goal.token_of-requires-clause-some
token_of-requires-clause-some c = λ more. (front-within c.skip_to_token-found.result.rest.now c.in_ok-kind.kind c.in_ok-kind.size c.in_ok-kind.ensures more).some

pub returns-then-last : goal.returns-then-last
returns-then-last c =
    let found = c.skip_to_token-found.result in
    let before = c.skip_to_token-found.ensures in
    let kind = c.in_ok-kind.kind in
    let last : ends kind ≡ true = sym c.ends-last.ensures ∙ c.if-last.true in
    let list = tokens_from-last c.args.nested found.rest.now found.place found.fresh kind c.in_ok-kind.size before.no_blank before.no_comment c.in_ok-kind.ensures last in
    c.from_vec.ensures ∙ c.in_ok-push.ensures.items ∙ ap (λ t. c.loop-tokens.tokens.items ++ t ∷ []) c.token_of.ensures
    ∙ sym (c.loop-tokens.invariant.tokens ∙ ap (λ ts. c.loop-tokens.tokens.items ++ ts) (before.tokens ∙ list))

pub after_token-cursor-requires : goal.after_token-cursor-requires
after_token-cursor-requires c =
    let more : ends c.in_ok-kind.kind ≡ false = sym c.ends-last.ensures ∙ c.if-last.false in
    let size = front-within c.skip_to_token-found.result.rest.now c.in_ok-kind.kind c.in_ok-kind.size c.in_ok-kind.ensures more in
    record { room = c.skip_to_token-found.ensures.room; some = size.some; within = size.within }

pub loop-tokens-smaller : goal.loop-tokens-smaller
loop-tokens-smaller c =
    let rest = c.skip_to_token-found.result.rest.now in
    let more : ends c.in_ok-kind.kind ≡ false = sym c.ends-last.ensures ∙ c.if-last.false in
    let size = front-within rest c.in_ok-kind.kind c.in_ok-kind.size c.in_ok-kind.ensures more in
    let left : length c.after_token-cursor.result.rest.now ≡ length rest - c.in_ok-kind.size = ap length c.after_token-cursor.ensures.rest ∙ length-drop c.in_ok-kind.size rest in
    omega (arith, size.some, size.within, c.skip_to_token-found.ensures.within)

pub loop-tokens-preserved : goal.loop-tokens-preserved
loop-tokens-preserved c =
    let nested = c.args.nested in
    let found = c.skip_to_token-found.result in
    let before = c.skip_to_token-found.ensures in
    let rest = found.rest.now in
    let items = c.loop-tokens.tokens.items in
    let kind = c.in_ok-kind.kind in
    let size = c.in_ok-kind.size in
    let more : ends kind ≡ false = sym c.ends-last.ensures ∙ c.if-last.false in
    let here : Token = token kind (take size rest) found.place found.fresh in
    let others : List Token = tokens_from nested (drop size rest) (numbered (past_all (take size rest) found.place)) false 0 in
    let list : tokens_from nested rest found.place found.fresh 0 ≡ here ∷ others = tokens_from-next nested rest found.place found.fresh kind size before.no_blank c.in_ok-kind.ensures more in
    let behind : tokens_from nested c.after_token-cursor.result.rest.now c.after_token-cursor.result.place c.after_token-cursor.result.fresh 0 ≡ others =
    rw (c.after_token-cursor.ensures.rest, c.after_token-cursor.ensures.place, c.after_token-cursor.ensures.fresh) in
    let pushed : c.push.new.self.items ≡ items ++ here ∷ [] = c.in_ok-push.ensures.items ∙ ap (λ t. items ++ t ∷ []) c.token_of.ensures in
    record {
      tokens = c.loop-tokens.invariant.tokens
          ∙ ap (λ ts. items ++ ts) (before.tokens ∙ list)
          ∙ sym (append_assoc items (here ∷ []) others)
          ∙ ap (λ ts. ts ++ others) (sym pushed)
          ∙ ap (λ ts. c.push.new.self.items ++ ts) (sym behind);
      room = c.after_token-cursor.ensures.room;
    }
