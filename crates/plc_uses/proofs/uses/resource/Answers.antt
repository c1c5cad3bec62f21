use Rattle.std.proofs.Common.{None}
use Rattle.std.specs.List.{flat_map}
use Rattle.plc_base.proofs.LeastLaws.{meets_each, meets_then}
use Rattle.plc_types.specs.Known.{world_of}
use Rattle.plc_uses.specs.Faults.{section_faults, inst_faults}
use Rattle.plc_uses.proofs.uses.resource.Goals as goal

pub returns : goal.returns
returns c =
    let f = c.args.forward in
    let w = world_of c.args.known.now in
    let r = c.args.resource.now in
    let sections = section_faults f w None in
    meets_then (flat_map sections r.globals) (flat_map (inst_faults f w) r.insts) c.args.met.now c.sections.new.met c.insts.new.met
    (meets_each sections c.as_slice.result.now r.globals c.args.met.now c.sections.new.met c.as_slice.ensures c.sections.ensures)
    (meets_each (inst_faults f w) c.as_slice-2.result.now r.insts c.sections.new.met c.insts.new.met c.as_slice-2.ensures c.insts.ensures)
