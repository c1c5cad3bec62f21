use Rattle.plc_typing.specs.Scope.{decl_variables}
use Rattle.plc_typing.proofs.Joining.{joins_on}
use Rattle.plc_typing.proofs.scope.Scope.section.Goals as goal

pub loop-decl-preserved : goal.loop-decl-preserved
loop-decl-preserved c =
    let lt = rw c.as_slice-decl-items.ensures at c.loop-decl-test.true in
    let is = rw c.as_slice-decl-items.ensures at c.decl-item.is in
    joins_on c.args.section.now.decls c.loop-decl.decl-index c.decl-item.result lt is c.args.self.now c.loop-decl.self c.decl.new.self decl_variables c.loop-decl.invariant c.in_ok-decl.ensures
