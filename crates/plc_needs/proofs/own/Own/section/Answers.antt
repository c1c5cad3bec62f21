use Rattle.plc_tree.specs.declared.tree.Decl.{Decl}
use Rattle.plc_names.specs.Needs.{decl_has}
use Rattle.plc_needs.proofs.Joining.{joins_on}
use Rattle.plc_needs.proofs.own.Own.section.Goals as goal

pub loop-decl-preserved : goal.loop-decl-preserved
loop-decl-preserved c =
    let lt = rw c.as_slice-decl-items.ensures at c.loop-decl-test.true in
    let is = rw c.as_slice-decl-items.ensures at c.decl-item.is in
    joins_on (λ (d : Decl) name. decl_has name d) c.args.section.now.decls c.loop-decl.decl-index c.decl-item.result c.args.self.now c.loop-decl.self c.decl.new.self lt is c.loop-decl.invariant c.in_ok-decl.ensures
