use Rattle.std.proofs.Common.{ap, sym}
use Rattle.plc_base.proofs.LeastLaws.{meets_as}
use Rattle.plc_types.specs.Known.{world_of}
use Rattle.plc_uses.specs.Faults.{start_faults, decl_faults}
use Rattle.plc_uses.proofs.uses.decl.Goals as goal

pub returns : goal.returns
returns c =
    let d = c.args.decl.now in
    let w = world_of c.args.known.now in
    meets_as (start_faults c.args.forward w c.want_of-want.result d.spec d.init) (decl_faults c.args.forward w c.args.want d) c.args.met.now c.start.new.met
    (ap (λ want. start_faults c.args.forward w want d.spec d.init) c.want_of-want.ensures) c.start.ensures
