use Rattle.std.proofs.Common.{[], ◌∷◌}
use Rattle.std.proofs.lemmas.Result.{on_ok_weaker}
use Rattle.plc_names.specs.Needs.{type_needs, values_of}
use Rattle.plc_needs.specs.Rows.{empty_rows}
use Rattle.plc_needs.proofs.Growing.{grows_next, grows_empty}
use Rattle.plc_needs.proofs.rows.type_rows.Goals as goal

pub returns : goal.returns
returns c =
    let ds = c.args.scopes.now.declared in
    let what = c.args.def.now.what in
    let r = c.empty_rows.result in
    let b = c.type_row.new.needs in
    let d = c.empty_rows.new.needs in
    grows_next ds r (type_needs what ∷ []) (empty_rows (values_of what)) c.args.needs.now b d c.in_ok-type_row.ensures
    (on_ok_weaker r (grows_empty ds (values_of what) c.values_len.result b d c.values_len.ensures) c.empty_rows.ensures)
