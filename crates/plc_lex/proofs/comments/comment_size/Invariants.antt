use Rattle.std.proofs.Common.{◌≡◌, ◌≤◌, ◌-◌, length, drop}
use Rattle.plc_lex.specs.Comments.{inside, comment}
use Rattle.plc_lex.proofs.CommentsLemmas.{more}
use Rattle.plc_lex.proofs.comments.comment_size.Given as goal

abbrev pub invariant-loop-size : goal.invariant-loop-size
invariant-loop-size l = record {
  value : comment l.nested l.text ≡ more l.size (inside l.nested l.around (drop l.size l.text));
  within : l.size ≤ length l.text;
  around : l.around ≤ l.size;
}

abbrev pub decreases-loop-size : goal.decreases-loop-size
decreases-loop-size l = length l.text - l.size
