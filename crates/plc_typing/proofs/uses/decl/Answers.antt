use Rattle.plc_base.proofs.LeastLaws.{meets_then}
use Rattle.plc_typing.specs.Uses.{address_faults, start_faults}
use Rattle.plc_typing.proofs.uses.decl.Goals as goal

pub returns : goal.returns
returns c =
    let d = c.args.decl.now in
    meets_then (address_faults d.located d.names) (start_faults d.spec d.init) c.args.met.now c.address.new.met c.start.new.met c.address.ensures c.start.ensures
