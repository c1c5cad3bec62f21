use Rattle.plc_names.specs.Needs.{decl_needs}
use Rattle.plc_needs.proofs.Adding.{adds_on}
use Rattle.plc_needs.proofs.declarations.section.Goals as goal

pub loop-decl-preserved : goal.loop-decl-preserved
loop-decl-preserved c =
    let lt = rw c.as_slice-decl-items.ensures at c.loop-decl-test.true in
    let is = rw c.as_slice-decl-items.ensures at c.decl-item.is in
    adds_on c.args.scopes.now.declared decl_needs c.args.section.now.decls c.loop-decl.decl-index c.decl-item.result c.args.row.now.items c.loop-decl.row.items c.spec.new.row.items lt is c.loop-decl.invariant c.in_ok-spec.ensures
