use Rattle.std.proofs.Common.{◌∙◌}
use Rattle.plc_scopes.proofs.TakenLemmas.{is_taken}
use Rattle.plc_scopes.proofs.scopes.Scopes.is_taken.Goals as goal

pub returns : goal.returns
returns c = c.is_found_before.ensures ∙ is_taken c.args.self.now.declared c.args.number c.args.declaration.now
