use Rattle.std.proofs.Common.{rules, ◌≤◌, length}
use Rattle.plc_top.proofs.Rooms.{one_more_room, all_rooms}
use Rattle.plc_top.proofs.steps.reserve_lines.Goals as goal

pub loop-text-preserved : goal.loop-text-preserved
loop-text-preserved c =
    let here = rw c.bytes.ensures at c.in_ok-reserve.ensures.ok in
    one_more_room _ _ _ _ _ c.loop-text-test.true c.text-item.is c.reserve.ensures.room here c.loop-text.invariant

pub returns : goal.returns
returns c =
    let le : length c.args.texts.now ≤ c.loop-text.text-index = search rules in
    all_rooms _ _ _ le c.loop-text.invariant
