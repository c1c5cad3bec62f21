use Rattle.plc_lex.proofs.Laws as laws
use Rattle.plc_lex.proofs.lexes.longest.Goals as goal

pub returns-clause-spelled : goal.returns-clause-spelled
returns-clause-spelled c = laws.lexed-lexes

pub returns-clause-only : goal.returns-clause-only
returns-clause-only c = laws.lexed-only
