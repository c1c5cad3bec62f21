use Rattle.plc_scopes.proofs.OwnerLemmas.{made-more}
use Rattle.plc_scopes.proofs.owners.owners_of.Goals as goal

pub loop-i-preserved : goal.loop-i-preserved
loop-i-preserved c =
    let o = c.loop-i.owners in
    let n = c.add_made.new.self in
    record {
      even = c.in_ok-add_made.ensures.even;
      lists = made-more c.args.all.now c.loop-i.i c.index-all-i.result o.names n.names o.lists.items n.lists.items c.loop-i-test.true c.index-all-i.is c.loop-i.invariant.lists c.in_ok-add_made.ensures;
    }
