use Rattle.std.proofs.Common.{ap}
use Rattle.plc_base.proofs.LeastLaws.{meets_as}
use Rattle.plc_typing.specs.Uses.{sole_faults, resource_faults}
use Rattle.plc_typing.proofs.Standing.{second_met}
use Rattle.plc_typing.proofs.uses.resources.Goals as goal

pub returns-in-len2-up : goal.returns-in-len2-up
returns-in-len2-up c =
    let x = c.args.config.now in
    let faults = resource_faults c.args.pous.now x.at in
    let a = c.args.met.now in
    let b = c.resource-in-len2-up.new.met in
    let d = c.suits-in-len2-up.new.met in
    meets_as (sole_faults (λ r. r.at) faults x.at c.as_slice.result.now) (sole_faults (λ r. r.at) faults x.at x.resources) a d (ap (sole_faults (λ r. r.at) faults x.at) c.as_slice.ensures)
    (second_met (λ r. r.at) faults x.at c.as_slice.result.now c.first-item.result c.second-item.result a b d c.in-len2-up.len_at_least c.first-item.is c.second-item.is c.resource-in-len2-up.ensures c.suits-in-len2-up.ensures)
