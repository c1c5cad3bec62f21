use Rattle.plc_base.proofs.LeastLaws.{meets_as, meets_on}
use Rattle.std.proofs.Common.{sym, false}
use Rattle.plc_typing.specs.Uses.{suits, part_faults}
use Rattle.plc_typing.proofs.plain.no_parts.Goals as goal

pub loop-part-preserved : goal.loop-part-preserved
loop-part-preserved c =
    let part = c.part-item.result in
    meets_on part_faults c.args.parts.now c.loop-part.part-index part c.args.met.now c.loop-part.met c.suits.new.met c.loop-part-test.true c.part-item.is c.loop-part.invariant
    (meets_as (suits false c.place_of_part.result) (part_faults part) c.loop-part.met c.suits.new.met (sym c.place_of_part.ensures) c.suits.ensures)
