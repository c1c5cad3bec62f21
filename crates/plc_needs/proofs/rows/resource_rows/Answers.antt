use Rattle.std.proofs.Common.{[], ◌∷◌, ◌++◌}
use Rattle.std.specs.List.{flat_map}
use Rattle.std.proofs.lemmas.Result.{on_ok_weaker}
use Rattle.plc_needs.specs.Rows.{section_rows, empty_rows}
use Rattle.plc_needs.proofs.Growing.{grows_then, grows_each, grows_empty}
use Rattle.plc_needs.proofs.rows.resource_rows.Goals as goal

pub returns : goal.returns
returns c =
    let x = c.args.resource.now in
    let b = c.begin.new.self in
    let d = c.sections_rows.new.needs in
    let m = c.empty_rows.new.needs in
    let z = c.empty_rows-2.new.needs in
    let globals = flat_map section_rows x.globals in
    let tasks = empty_rows x.tasks in
    let insts = empty_rows x.insts in
    on_ok_weaker c.empty_rows-2.result
    (λ h ds.
    grows_then ds ([] ∷ []) (globals ++ (tasks ++ insts)) c.args.needs.now b z c.in_ok-begin.ensures
    (grows_then ds globals (tasks ++ insts) b d z (grows_each ds section_rows c.as_slice.result.now x.globals b d c.as_slice.ensures (c.in_ok-sections_rows.ensures ds))
    (grows_then ds tasks insts d m z (grows_empty ds x.tasks c.len.result d m c.len.ensures c.in_ok-empty_rows.ensures) (grows_empty ds x.insts c.len-2.result m z c.len-2.ensures h))))
    c.empty_rows-2.ensures
