use Rattle.std.proofs.Common.{◌≡◌, suc, add-one, get_or, set, take, ap, ◌∙◌}
use Rattle.plc_tokens.specs.Tokens.{bad}
use Rattle.plc_tokens.proofs.Cut.{cut-set}
use Rattle.plc_tokens.proofs.tokens.Tokens.cut.Goals as goal

pub returns : goal.returns
returns c =
    let tokens = c.args.self.now in
    let i = c.args.i in
    let token = c.index_mut-token.result.now in
    let kept : c.truncate.new.self.items ≡ take (suc i) tokens = c.truncate.ensures.items ∙ ap (λ n. take n c.self.inside.tokens.items) (add-one i) ∙ ap (take (suc i)) c.self.view_is in
    let is : token ≡ get_or (take (suc i) tokens) i token = c.index_mut-token.ensures.value ∙ ap (λ ts. get_or ts i token) kept in
    ap (λ ts. set ts i (bad c.args.rule token.place token.fresh)) kept ∙ cut-set tokens i c.args.rule token c.requires is
