use Rattle.std.proofs.Common.{◌≡◌, ◌-◌, length, drop}
use Rattle.plc_lex.specs.Tokens as spec
use Rattle.plc_lex.specs.Tokens.{HasRoom}
use Rattle.plc_lex.proofs.lexer.past_all.Given as goal

abbrev pub invariant-loop-b : goal.invariant-loop-b
invariant-loop-b l = record {
  place : spec.past_all l.bytes l.fn.place ≡ spec.past_all (drop l.b-index l.bytes) l.place;
  room : HasRoom l.place (length l.bytes - l.b-index);
}
