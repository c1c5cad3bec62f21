use Rattle.std.proofs.Common.{◌++◌, take, ap}
use Rattle.std.specs.List.{flat_map}
use Rattle.plc_base.proofs.LeastLaws.{meets_each, meets_then}
use Rattle.plc_names.specs.Items.{first_config}
use Rattle.plc_types.specs.Known.{world_of}
use Rattle.plc_uses.specs.Faults.{type_faults, pou_faults, config_faults}
use Rattle.plc_uses.proofs.uses.meet_uses.Goals as goal

pub returns : goal.returns
returns c =
    let f = c.args.forward in
    let w = world_of c.args.known.now in
    let u = c.args.unit.now in
    let a = c.args.met.now in
    let b = c.type_defs.new.met in
    let d = c.pous.new.met in
    let e = c.configs.new.met in
    let pous = flat_map (pou_faults f w) u.pous in
    let configs = flat_map (config_faults f w) (first_config u) in
    meets_then (flat_map (type_faults f w) u.types) (pous ++ configs) a b e
    (meets_each (type_faults f w) c.as_slice.result.now u.types a b c.as_slice.ensures c.type_defs.ensures)
    (meets_then pous configs b d e
    (meets_each (pou_faults f w) c.as_slice-2.result.now u.pous b d c.as_slice-2.ensures c.pous.ensures)
    (meets_each (config_faults f w) (take 1 c.as_slice-3.result.now) (first_config u) d e (ap (take 1) c.as_slice-3.ensures) c.configs.ensures))
