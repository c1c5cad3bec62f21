use Rattle.plc_declared.specs.declared.order.What.TheVariants as which
use Rattle.plc_declared.specs.Row.{numbered_entries}
use Rattle.plc_declared.proofs.Adding.{added_one}
use Rattle.plc_declared.proofs.row.Declared.items.Goals as goal

pub loop-item-preserved : goal.loop-item-preserved
loop-item-preserved c =
    added_one c.args.scopes.own c.args.self.now c.loop-item.self c.item.new.self c.args.items.now c.loop-item.item-index (record { token = 0; what = which.Type 0 }) (numbered_entries c.args.scopes.first c.args.scopes.config c.args.unit.now) c.loop-item-test.true c.loop-item.invariant c.in_ok-item.ensures
