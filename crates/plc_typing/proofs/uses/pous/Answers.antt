use Rattle.plc_typing.specs.Uses.{pou_faults}
use Rattle.plc_typing.proofs.Standing.{second_met}
use Rattle.plc_typing.proofs.uses.pous.Goals as goal

pub returns-in_ok-pou-in-len2-up : goal.returns-in_ok-pou-in-len2-up
returns-in_ok-pou-in-len2-up c =
    second_met (λ p. p.at) pou_faults c.args.end c.args.pous.now c.first-item.result c.second-item.result c.args.met.now c.pou-in-len2-up.new.met c.suits-in-len2-up.new.met
    c.in-len2-up.len_at_least c.first-item.is c.second-item.is c.in_ok-pou-in-len2-up.ensures c.suits-in-len2-up.ensures
