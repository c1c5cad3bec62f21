use Rattle.std.proofs.Common.{List, ℕ, subst, codes, decimal}
use Rattle.plc_outside.specs.Calls.{Complained}
use Rattle.plc_top.specs.Lines.{refusal_line, rule_text}
use Rattle.plc_top.proofs.Filling.{joined}
use Rattle.plc_top.proofs.complaint.Complaint.refused.Goals as goal

pub returns : goal.returns
unfolding refusal_line
returns g c =
    let told = rw (c.as_bytes-line.ensures.value, c.as_bytes-col.ensures.value, c.format.ensures.text, c.format-2.ensures.text, c.rule_text-rule.ensures.text) at c.tell.ensures in
    let P : List ℕ → Type 0 = λ line. Complained line (g.O.Console.seen c.args.console.now) (g.O.Console.seen c.tell.new.console) in
    let place = c.args.refusal.place in
    subst P (joined c.args.name.now (codes ":") (decimal place.line) (codes ":") (decimal place.col) (codes ": error ") (rule_text c.args.refusal.rule) (codes "\n")) told
