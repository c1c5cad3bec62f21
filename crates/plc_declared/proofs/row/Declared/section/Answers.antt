use Rattle.plc_declared.proofs.Adding.{added_more}
use Rattle.plc_names.specs.Declarations.{OfVars}
use Rattle.plc_declared.proofs.row.Declared.section.Goals as goal

pub loop-decl-preserved : goal.loop-decl-preserved
loop-decl-preserved c =
    let lt = rw c.as_slice-decl-items.ensures at c.loop-decl-test.true in
    let is = rw c.as_slice-decl-items.ensures at c.decl-item.is in
    added_more c.args.own c.args.self.now c.loop-decl.self c.add_variables.new.self c.args.section.now.decls c.loop-decl.decl-index c.decl-item.result (OfVars c.args.scope c.args.section.now) lt is c.loop-decl.invariant c.in_ok-add_variables.ensures
