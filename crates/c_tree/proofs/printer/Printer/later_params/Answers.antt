use Rattle.c_tree.specs.Spelling as spec
use Rattle.c_tree.proofs.GrowingText.{put_all-more_behind}
use Rattle.c_tree.proofs.printer.Printer.later_params.Goals as goal

pub loop-param-preserved : goal.loop-param-preserved
loop-param-preserved c =
    put_all-more_behind spec.param_pieces _ _ _ _ c.args.params.now c.loop-param.param-index c.param-item.result c.loop-param-test.true c.param-item.is c.loop-param.invariant c.in_ok-mark.ensures c.in_ok-param.ensures
