use Rattle.std.proofs.Common.{◌∙◌}
use Rattle.plc_needs.specs.Own.{has}
use Rattle.plc_needs.proofs.Joining.{has-keys}
use Rattle.plc_needs.proofs.own.Own.has.Goals as goal

pub returns : goal.returns
returns c = c.contains.ensures ∙ has-keys c.bytes.result.now c.self.inside.names.keys ∙ (λ i. has (c.self.view_is i) (c.bytes.ensures i))
