use Rattle.std.proofs.Common.{◌≡◌, ap, sym, ◌∙◌}
use Rattle.plc_base.proofs.LeastLaws.{meets_as, meets_then}
use Rattle.plc_names.specs.Needs.{spec_type, start_owners, init_owners}
use Rattle.plc_names.specs.Uses.{use_of, want_of_spec}
use Rattle.plc_types.specs.Known.{world_of}
use Rattle.plc_uses.specs.Faults.{use_faults, owners_faults}
use Rattle.plc_uses.proofs.uses.start.Goals as goal

pub returns-in-Some : goal.returns-in-Some
returns-in-Some c =
    let f = c.args.forward in
    let w = world_of c.args.known.now in
    let id = c.type_of-id.result.now in
    let what = c.args.what.now in
    let named = use_faults f w (use_of (want_of_spec c.args.want what) (spec_type what)) in
    meets_then named (owners_faults f w (start_owners c.args.init.now)) c.args.met.now c.used.new.met c.owners.new.met
    (meets_as _ named c.args.met.now c.used.new.met ((λ i. use_faults f w (use_of (c.want_of_spec.ensures i) (c.type_of-id.ensures i)))) c.used.ensures)
    (meets_as _ (owners_faults f w (start_owners c.args.init.now)) c.used.new.met c.owners.new.met (ap (λ o. owners_faults f w (start_owners o)) (sym c.in-Some.is)) c.owners.ensures)
