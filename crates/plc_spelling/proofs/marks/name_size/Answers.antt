use Rattle.std.proofs.Common.{arith, ◌+◌, subst, sym}
use Rattle.plc_spelling.specs.Text.{IsGreatest}
use Rattle.plc_spelling.proofs.Inclusions.{named, no-file, no-hidden, no-closing, named-is}
use Rattle.plc_spelling.proofs.marks.name_size.Goals as goal
use Rattle.plc_spelling.proofs.marks.name_size.Goals.{then-name-eq0-via-then-name-eq0, then-name-eq0-via-else-name-eq0+then-begins_with}

pub returns-then-name-eq0 : goal.returns-then-name-eq0
returns-then-name-eq0 c = elim c.then-name-eq0.branch [
  | then-name-eq0-via-then-name-eq0 w ↦ no-file c.args.text.now (cc)
  | then-name-eq0-via-else-name-eq0+then-begins_with w ↦ no-hidden c.args.text.now (omega (arith, c.file_run-name.ensures.value)) (cc)
]

pub returns-then-starts_with : goal.returns-then-starts_with
returns-then-starts_with c = subst (λ n. IsGreatest named c.args.text.now (n + 2)) (sym c.file_run-name.ensures.value)
    (named-is c.args.text.now (omega (arith, c.file_run-name.ensures.value)) (cc) (cc))

pub returns-else-starts_with : goal.returns-else-starts_with
returns-else-starts_with c = no-closing c.args.text.now (cc)
