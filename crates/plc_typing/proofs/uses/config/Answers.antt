use Rattle.std.proofs.Common.{ap}
use Rattle.plc_base.proofs.LeastLaws.{meets_as, meets_then}
use Rattle.plc_typing.specs.Uses.{unbuilt_faults, sole_faults, resource_faults}
use Rattle.plc_typing.proofs.uses.config.Goals as goal

pub returns : goal.returns
returns c =
    let x = c.args.config.now in
    let globals = unbuilt_faults (λ s. s.at) x.globals in
    let a = c.args.met.now in
    let b = c.globals.new.met in
    meets_then globals (sole_faults (λ r. r.at) (resource_faults c.args.pous.now x.at) x.at x.resources) a b c.resources.new.met
    (meets_as (unbuilt_faults (λ s. s.at) c.as_slice.result.now) globals a b (ap (unbuilt_faults (λ s. s.at)) c.as_slice.ensures) c.globals.ensures) c.resources.ensures
