use Rattle.std.proofs.Common.{◌≡◌, ◌<◌, ◌≤◌, false, length, get_or}
use Rattle.plc_spelling.specs.Text.{is_blank}
use Rattle.plc_lex.specs.Tokens.{HasRoom, tokens_from}
use Rattle.plc_lex.proofs.lexer.skip_to_token.Given as goal

abbrev pub invariant-loop-size : goal.invariant-loop-size
invariant-loop-size l = record {
  tokens : tokens_from l.nested l.fn.cursor.rest.now l.fn.cursor.place l.fn.cursor.fresh 0 ≡ tokens_from l.nested l.found.rest.now l.found.place l.found.fresh 0;
  no_blank : 0 < length l.found.rest.now → is_blank (get_or l.found.rest.now 0 0) ≡ false;
  room : HasRoom l.found.place (length l.found.rest.now);
  within : length l.found.rest.now ≤ length l.fn.cursor.rest.now;
}

abbrev pub decreases-loop-size : goal.decreases-loop-size
decreases-loop-size l = length l.found.rest.now
