use Rattle.plc_needs.specs.Rows.{decl_rows}
use Rattle.plc_needs.proofs.Growing.{grows_on, grows_empty}
use Rattle.plc_needs.proofs.rows.section_rows.Goals as goal

pub loop-decl-preserved : goal.loop-decl-preserved
loop-decl-preserved c ds =
    let lt = rw c.as_slice-decl-items.ensures at c.loop-decl-test.true in
    let is = rw c.as_slice-decl-items.ensures at c.decl-item.is in
    grows_on ds decl_rows c.args.section.now.decls c.loop-decl.decl-index c.decl-item.result c.args.needs.now c.loop-decl.needs c.empty_rows.new.needs lt is (c.loop-decl.invariant ds)
    (grows_empty ds c.decl-item.result.names c.len.result c.loop-decl.needs c.empty_rows.new.needs c.len.ensures c.in_ok-empty_rows.ensures)
