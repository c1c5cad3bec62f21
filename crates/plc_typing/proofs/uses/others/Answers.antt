use Rattle.std.proofs.Common.{ap, ◌++◌}
use Rattle.plc_base.proofs.LeastLaws.{meets_as, meets_then}
use Rattle.plc_typing.specs.Uses.{unbuilt_faults, sole_faults, pou_faults, config_faults}
use Rattle.plc_typing.proofs.uses.others.Goals as goal

pub returns : goal.returns
returns c =
    let u = c.args.unit.now in
    let end = c.args.end in
    let types = unbuilt_faults (λ t. t.at) u.types in
    let pous = sole_faults (λ p. p.at) pou_faults end u.pous in
    let configs = sole_faults (λ x. x.at) (config_faults u.pous) end u.configs in
    let a = c.args.met.now in
    let b = c.types.new.met in
    let d = c.pous.new.met in
    let e = c.configs.new.met in
    meets_then types (pous ++ configs) a b e
    (meets_as (unbuilt_faults (λ t. t.at) c.as_slice.result.now) types a b (ap (unbuilt_faults (λ t. t.at)) c.as_slice.ensures) c.types.ensures)
    (meets_then pous configs b d e
    (meets_as (sole_faults (λ p. p.at) pou_faults end c.as_slice-2.result.now) pous b d (ap (sole_faults (λ p. p.at) pou_faults end) c.as_slice-2.ensures) c.in_ok-pous.ensures)
    (meets_as (sole_faults (λ x. x.at) (config_faults c.as_slice-3.result.now) end c.as_slice-4.result.now) configs d e
    (λ i. sole_faults (λ x. x.at) (config_faults (c.as_slice-3.ensures i)) end (c.as_slice-4.ensures i)) c.configs.ensures))
