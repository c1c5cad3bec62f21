use Rattle.c_tree.specs.Spelling as spec
use Rattle.c_tree.proofs.GrowingText.{put_all-more_number}
use Rattle.c_tree.proofs.printer.Printer.dims.Goals as goal

pub loop-dim-preserved : goal.loop-dim-preserved
loop-dim-preserved c = put_all-more_number spec.dim_pieces _ _ _ c.args.dims.now c.loop-dim.dim-index c.loop-dim-test.true c.loop-dim.invariant c.in_ok-dim.ensures
