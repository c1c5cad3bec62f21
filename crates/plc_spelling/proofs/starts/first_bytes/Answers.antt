use Rattle.std.proofs.Common.{refl}
use Rattle.plc_spelling.proofs.FirstBytes.{form-first}
use Rattle.plc_spelling.proofs.starts.first_bytes.Goals as goal

pub returns-clause-table : goal.returns-clause-table
returns-clause-table c = refl

pub returns-clause-first : goal.returns-clause-first
returns-clause-first c = form-first
