use Rattle.std.proofs.Common.{sym, subst, ap, ◌∙◌, max, ◌≡◌}
use Rattle.plc_spelling.specs.Literals.{is_truth}
use Rattle.plc_spelling.specs.Text.{IsGreatest}
use Rattle.plc_spelling.proofs.LiteralFronts.{truth-is}
use Rattle.plc_spelling.proofs.literals.truth_size.Goals as goal

pub returns : goal.returns
returns c =
    let all : c.max.result ≡ max (max c.word_size.result c.word_size-2.result) (max c.word_size-3.result c.word_size-4.result) = c.max.ensures ∙ ap (λ n. max n c.max-falsity.result) c.max-truth.ensures
    ∙ ap (max (max c.word_size.result c.word_size-2.result)) c.max-falsity.ensures in
    subst (IsGreatest is_truth c.args.text.now) (sym all) (truth-is c.args.text.now _ _ _ _ c.word_size.ensures c.word_size-2.ensures c.word_size-3.ensures c.word_size-4.ensures)
