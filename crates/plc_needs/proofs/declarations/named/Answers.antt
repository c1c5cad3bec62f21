use Rattle.std.proofs.lemmas.Result.{on_ok_weaker}
use Rattle.plc_needs.proofs.declarations.named.Goals as goal

pub returns : goal.returns
returns c = on_ok_weaker c.need.result (λ h. h c.args.id.now.at) c.need.ensures
