use Rattle.std.proofs.Common.{ap, Some}
use Rattle.std.specs.List.{flat_map}
use Rattle.plc_base.proofs.LeastLaws.{meets_each, meets_then}
use Rattle.plc_names.specs.Uses.{result_uses}
use Rattle.plc_types.specs.Known.{world_of}
use Rattle.plc_uses.specs.Faults.{uses_faults, section_faults}
use Rattle.plc_uses.proofs.uses.pou.Goals as goal

pub returns : goal.returns
returns c =
    let f = c.args.forward in
    let w = world_of c.args.known.now in
    let p = c.args.pou.now in
    let sections = section_faults f w (Some p.kind) in
    meets_then (uses_faults f w (result_uses p.result)) (flat_map sections p.sections) c.args.met.now c.result_type.new.met c.sections.new.met c.result_type.ensures
    (meets_each sections c.as_slice.result.now p.sections c.result_type.new.met c.sections.new.met c.as_slice.ensures c.sections.ensures)
