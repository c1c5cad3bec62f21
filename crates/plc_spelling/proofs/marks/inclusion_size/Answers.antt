use Rattle.std.proofs.Common.{◌≡◌, ◌+◌, drop, subst, arith}
use Rattle.std.specs.List.{prefix_len}
use Rattle.plc_spelling.specs.Marks.{is_inclusion, behind_word}
use Rattle.plc_spelling.specs.Text.{IsGreatest, is_blank}
use Rattle.plc_spelling.proofs.Inclusions.{named, no-blank, no-quote, no-name, inclusion-is}
use Rattle.plc_spelling.proofs.marks.inclusion_size.Goals as goal
use Rattle.plc_spelling.proofs.marks.inclusion_size.Goals.{then-blanks-eq0-via-then-blanks-eq0, then-blanks-eq0-via-else-blanks-eq0+then-not-begins_with}

pub returns-then-blanks-eq0 : goal.returns-then-blanks-eq0
returns-then-blanks-eq0 c = elim c.then-blanks-eq0.branch [
  | then-blanks-eq0-via-then-blanks-eq0 w ↦ no-blank c.args.text.now (cc)
  | then-blanks-eq0-via-else-blanks-eq0+then-not-begins_with w ↦ no-quote c.args.text.now (cc)
]

pub returns-then-size-eq0 : goal.returns-then-size-eq0
returns-then-size-eq0 c =
    let place : c.behind.result.now ≡ drop 1 (behind_word c.args.text.now) = cc in
    no-name c.args.text.now c.name_size-size.result (subst (λ bs. IsGreatest named bs c.name_size-size.result) place c.name_size-size.ensures) (omega arith)

pub returns-else-size-eq0 : goal.returns-else-size-eq0
returns-else-size-eq0 c =
    let place : c.behind.result.now ≡ drop 1 (behind_word c.args.text.now) = cc in
    let blanks : prefix_len is_blank (drop 9 c.args.text.now) ≡ c.blank_run-blanks.result = cc in
    subst (λ n. IsGreatest is_inclusion c.args.text.now (9 + n + 1 + c.name_size-size.result)) blanks
    (inclusion-is c.args.text.now c.name_size-size.result (subst (λ bs. IsGreatest named bs c.name_size-size.result) place c.name_size-size.ensures)
    (cc) (omega (arith, blanks)) (cc) (omega arith))
