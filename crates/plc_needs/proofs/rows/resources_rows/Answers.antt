use Rattle.plc_needs.specs.Rows.{resource_rows}
use Rattle.plc_needs.proofs.Growing.{grows_on}
use Rattle.plc_needs.proofs.rows.resources_rows.Goals as goal

pub loop-resource-preserved : goal.loop-resource-preserved
loop-resource-preserved c ds =
    grows_on ds resource_rows c.args.resources.now c.loop-resource.resource-index c.resource-item.result c.args.needs.now c.loop-resource.needs c.resource_rows.new.needs c.loop-resource-test.true c.resource-item.is (c.loop-resource.invariant ds) (c.in_ok-resource_rows.ensures ds)
