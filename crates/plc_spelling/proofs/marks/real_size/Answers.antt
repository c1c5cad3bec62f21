use Rattle.std.proofs.Common.{arith}
use Rattle.plc_spelling.proofs.Reals.{no-digit, no-point, no-decimal, real-is}
use Rattle.plc_spelling.proofs.marks.real_size.Goals as goal
use Rattle.plc_spelling.proofs.marks.real_size.Goals.{then-whole-eq0-via-then-whole-eq0, then-whole-eq0-via-else-whole-eq0+then-not-begins_with}

pub returns-then-whole-eq0 : goal.returns-then-whole-eq0
returns-then-whole-eq0 c = elim c.then-whole-eq0.branch [
  | then-whole-eq0-via-then-whole-eq0 w ↦ no-digit c.args.text.now (omega arith)
  | then-whole-eq0-via-else-whole-eq0+then-not-begins_with w ↦ no-point c.args.text.now cc
]

pub returns-then-decimals-eq0 : goal.returns-then-decimals-eq0
returns-then-decimals-eq0 c = no-decimal c.args.text.now cc

pub returns-else-decimals-eq0 : goal.returns-else-decimals-eq0
returns-else-decimals-eq0 c = real-is c.args.text.now c.digit_run-whole.result c.digit_run-decimals.result (cc) (cc)
    (omega arith) (cc) (omega arith)
