use Rattle.std.proofs.Common.{◌≡◌, ◌≤◌, ◌++◌, drop, vec_capacity}
use Rattle.std.specs.List.{flat_map}
use Rattle.plc_top.proofs.Filling.{now_of}
use Rattle.plc_top.proofs.complaint.fill.Given as goal

abbrev pub invariant-loop-piece : goal.invariant-loop-piece
invariant-loop-piece l =
    (l.line.items ++ flat_map now_of (drop l.piece-index l.pieces) ≡ flat_map now_of l.pieces)
    × (vec_capacity l.fn.line ≤ vec_capacity l.line)
