use Rattle.plc_typing.specs.Uses.{config_faults}
use Rattle.plc_typing.proofs.Standing.{second_met}
use Rattle.plc_typing.proofs.uses.configs.Goals as goal

pub returns-in-len2-up : goal.returns-in-len2-up
returns-in-len2-up c =
    second_met (λ x. x.at) (config_faults c.args.pous.now) c.args.end c.args.configs.now c.first-item.result c.second-item.result c.args.met.now c.config-in-len2-up.new.met c.suits-in-len2-up.new.met
    c.in-len2-up.len_at_least c.first-item.is c.second-item.is c.config-in-len2-up.ensures c.suits-in-len2-up.ensures
