use Rattle.std.proofs.Common.{◌≡◌, ◌-◌, Bool, length, drop}
use Rattle.plc_lex.specs.Tokens.{HasRoom, tokens_from}
use Rattle.plc_lex.proofs.lexer.skip_blanks.Given as goal

abbrev pub invariant-loop-i : goal.invariant-loop-i
invariant-loop-i l = record {
  tokens : (nested : Bool) → tokens_from nested l.rest l.fn.cursor.place l.fn.cursor.fresh 0 ≡ tokens_from nested (drop l.i l.rest) l.place l.fresh 0;
  room : HasRoom l.place (length l.rest - l.i);
}
