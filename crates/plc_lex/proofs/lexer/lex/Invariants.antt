use Rattle.std.proofs.Common.{◌≡◌, ◌++◌, length}
use Rattle.plc_lex.specs.Tokens.{HasRoom, tokens_from, lexed}
use Rattle.plc_lex.proofs.lexer.lex.Given as goal

abbrev pub invariant-loop-tokens : goal.invariant-loop-tokens
invariant-loop-tokens l = record {
  tokens : lexed l.text l.file l.nested ≡ l.tokens.items ++ tokens_from l.nested l.cursor.rest.now l.cursor.place l.cursor.fresh 0;
  room : HasRoom l.cursor.place (length l.cursor.rest.now);
}

abbrev pub decreases-loop-tokens : goal.decreases-loop-tokens
decreases-loop-tokens l = length l.cursor.rest.now
