use Rattle.plc_base.proofs.LeastLaws.{meets_on}
use Rattle.plc_types.specs.Known.{world_of}
use Rattle.plc_uses.specs.Faults as spec
use Rattle.plc_uses.proofs.Owners.{list_met, struct_met}
use Rattle.plc_uses.proofs.uses.+owners.Goals as goal

pub owners-returns-in-List : goal.owners-returns-in-List
owners-returns-in-List t c =
    list_met c.args.forward (world_of c.args.known.now) c.args.init.now c.in-List.items c.as_slice.result.now c.in-List.at c.args.met.now c.elements.new.met c.in-List.is c.as_slice.ensures c.elements.ensures

pub owners-returns-in-Struct : goal.owners-returns-in-Struct
owners-returns-in-Struct t c =
    struct_met c.args.forward (world_of c.args.known.now) c.args.init.now c.in-Struct.list c.as_slice-in-Struct.result.now c.in-Struct.at c.args.met.now c.parts.new.met c.in-Struct.is c.as_slice-in-Struct.ensures c.parts.ensures

pub elements-loop-item-preserved : goal.elements-loop-item-preserved
elements-loop-item-preserved t c =
    meets_on (spec.element_faults c.args.forward (world_of c.args.known.now)) c.args.items.now c.loop-item.item-index c.item-item.result c.args.met.now c.loop-item.met c.element.new.met c.loop-item-test.true c.item-item.is c.loop-item.invariant c.element.ensures

pub parts-loop-part-preserved : goal.parts-loop-part-preserved
parts-loop-part-preserved t c =
    meets_on (spec.part_faults c.args.forward (world_of c.args.known.now)) c.args.parts.now c.loop-part.part-index c.part-item.result c.args.met.now c.loop-part.met c.owners.new.met c.loop-part-test.true c.part-item.is c.loop-part.invariant c.owners.ensures
