use Rattle.std.proofs.Common.{None}
use Rattle.std.specs.List.{flat_map}
use Rattle.plc_base.proofs.LeastLaws.{meets_each, meets_then}
use Rattle.plc_types.specs.Known.{world_of}
use Rattle.plc_uses.specs.Faults.{section_faults, resource_faults}
use Rattle.plc_uses.proofs.uses.config.Goals as goal

pub returns : goal.returns
returns c =
    let f = c.args.forward in
    let w = world_of c.args.known.now in
    let x = c.args.config.now in
    let sections = section_faults f w None in
    meets_then (flat_map sections x.globals) (flat_map (resource_faults f w) x.resources) c.args.met.now c.sections.new.met c.resources.new.met
    (meets_each sections c.as_slice.result.now x.globals c.args.met.now c.sections.new.met c.as_slice.ensures c.sections.ensures)
    (meets_each (resource_faults f w) c.as_slice-2.result.now x.resources c.sections.new.met c.resources.new.met c.as_slice-2.ensures c.resources.ensures)
