use Rattle.std.proofs.Common.{◌∙◌}
use Rattle.plc_scopes.proofs.ListLemmas.{members-added, members-passed}
use Rattle.plc_scopes.proofs.members.members_of.Goals as goal
use Rattle.plc_scopes.proofs.members.members_of.Goals.{then-d-count+in_ok-add, else-d-count}

pub loop-i-preserved : goal.loop-i-preserved
loop-i-preserved c =
    let ds = c.args.declared.now in
    let k = c.loop-i.i in
    let d = c.index-declared-i.result in
    elim c.if-d-count.branch [
      | then-d-count+in_ok-add w ↦
          rw w.members-is (record {
            count = w.in_ok-add.ensures.count ∙ c.loop-i.invariant.count;
            lists = members-added ds k d c.loop-i-test.true c.index-declared-i.is c.args.count c.loop-i.members.items c.loop-i.invariant.lists w.add.new.lists.items w.in_ok-add.ensures;
          })
      | else-d-count w ↦
          rw w.members-is (record {
            count = c.loop-i.invariant.count;
            lists = members-passed ds k d c.loop-i-test.true c.index-declared-i.is c.args.count c.loop-i.members.items c.loop-i.invariant.lists w.if-d-count.false;
          })
    ]
