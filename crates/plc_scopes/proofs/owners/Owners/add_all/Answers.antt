use Rattle.plc_scopes.proofs.OwnerLemmas.{notes-more}
use Rattle.plc_scopes.proofs.owners.Owners.add_all.Goals as goal

pub loop-value-preserved : goal.loop-value-preserved
loop-value-preserved c =
    let o = c.args.self.now in
    let l = c.loop-value in
    let n = c.add.new.self in
    notes-more c.args.values.now l.value-index c.value-item.result c.bytes.result.now c.args.number o.names o.lists.items l.self.names l.self.lists.items n.names n.lists.items
    c.loop-value-test.true c.value-item.is c.bytes.ensures l.invariant c.in_ok-add.ensures
