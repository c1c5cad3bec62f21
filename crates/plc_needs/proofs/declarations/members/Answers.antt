use Rattle.plc_names.specs.Needs.{member_needs}
use Rattle.plc_needs.proofs.Adding.{adds_on}
use Rattle.plc_needs.proofs.declarations.members.Goals as goal

pub loop-member-preserved : goal.loop-member-preserved
loop-member-preserved c =
    adds_on c.args.scopes.now.declared member_needs c.args.members.now c.loop-member.member-index c.member-item.result c.args.row.now.items c.loop-member.row.items c.spec.new.row.items c.loop-member-test.true c.member-item.is c.loop-member.invariant c.in_ok-spec.ensures
