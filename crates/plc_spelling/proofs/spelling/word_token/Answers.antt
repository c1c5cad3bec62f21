use Rattle.std.proofs.Common.{◌≡◌, ◌∙◌, sym, ap, subst, ◌<◌, ◌≤◌, take}
use Rattle.plc_spelling.specs.Spelling.{first_kind, size}
use Rattle.plc_spelling.specs.Words.{run_kind}
use Rattle.plc_spelling.proofs.FirstTokens.{found, word-literal, word-run}
use Rattle.plc_spelling.proofs.spelling.word_token.Goals as goal

pub returns-in_ok-literal_kind : goal.returns-in_ok-literal_kind
returns-in_ok-literal_kind c =
    let longer = subst (λ n. n < c.literal_size-literal.result) c.word_run-run.ensures.value c.if-literal-run.true in
    ap (λ kind. found kind c.literal_size-literal.result) (c.in_ok-literal_kind.ensures)
    ∙ word-literal c.args.text.now c.literal_size-literal.result c.requires.some c.requires.first longer c.literal_size-literal.ensures

pub returns-in_ok-run_kind : goal.returns-in_ok-run_kind
returns-in_ok-run_kind c =
    let text = c.args.text.now in
    let run = c.word_run-run.ensures.value in
    let shorter = subst (λ n. c.literal_size-literal.result ≤ n) run c.if-literal-run.false in
    ap (λ kind. found kind c.word_run-run.result) (c.in_ok-run_kind.ensures)
    ∙ subst (λ n. found (run_kind (take n text)) n ≡ found (first_kind text) (size text)) (sym run)
    (word-run text c.literal_size-literal.result c.requires.some c.requires.first shorter c.literal_size-literal.ensures)
