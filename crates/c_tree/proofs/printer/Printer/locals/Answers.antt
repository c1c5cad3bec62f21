use Rattle.c_tree.specs.Spelling as spec
use Rattle.c_tree.proofs.GrowingText.{put_all-more}
use Rattle.c_tree.proofs.printer.Printer.locals.Goals as goal

pub loop-local-preserved : goal.loop-local-preserved
loop-local-preserved c =
    put_all-more spec.local_pieces _ _ _ c.args.locals.now c.loop-local.local-index c.local-item.result c.loop-local-test.true c.local-item.is c.loop-local.invariant c.in_ok-local.ensures
