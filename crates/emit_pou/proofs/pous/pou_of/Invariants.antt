use Rattle.std.proofs.Common.{◌≡◌, drop}
use Rattle.plc_tree.specs.Rows.{pou_in}
use Rattle.emit_pou.proofs.pous.pou_of.Given as goal

abbrev pub invariant-loop-pou : goal.invariant-loop-pou
invariant-loop-pou l = pou_in l.pous l.id ≡ pou_in (drop l.pou-index l.pous) l.id
