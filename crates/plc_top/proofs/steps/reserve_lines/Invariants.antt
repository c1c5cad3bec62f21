use Rattle.std.proofs.Common.{take}
use Rattle.std.specs.List.{All}
use Rattle.plc_top.specs.Complaints.{room, HasRoom}
use Rattle.plc_top.proofs.steps.reserve_lines.Given as goal

abbrev pub invariant-loop-text : goal.invariant-loop-text
invariant-loop-text l = All (λ text. HasRoom (room l.complaint) text.name) (take l.text-index l.texts)
