use Rattle.plc_lex.proofs.Laws as laws
use Rattle.plc_lex.proofs.lexes.listed.Goals as goal

pub returns-clause-closed : goal.returns-clause-closed
returns-clause-closed c = laws.lexed-closed

pub returns-clause-numbered : goal.returns-clause-numbered
returns-clause-numbered c = laws.lexed-numbered

pub returns-clause-named : goal.returns-clause-named
returns-clause-named c = laws.lexed-names

pub returns-clause-sorted : goal.returns-clause-sorted
returns-clause-sorted c = laws.lexed-sorted
