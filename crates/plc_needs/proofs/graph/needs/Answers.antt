use Rattle.std.proofs.Common.{ap, ◌∙◌, ◌++◌}
use Rattle.std.specs.List.{flat_map}
use Rattle.plc_names.specs.Items.{items, own_items}
use Rattle.plc_names.specs.Needs.{graph}
use Rattle.plc_needs.specs.Rows.{numbered_rows, item_rows}
use Rattle.plc_needs.proofs.Entries.{rows_are}
use Rattle.plc_needs.proofs.Growing.{grows_as, grows_then}
use Rattle.plc_needs.proofs.Numbered.{rows_numbered}
use Rattle.plc_needs.proofs.graph.needs.Goals as goal

pub returns : goal.returns
returns c =
    let ds = c.args.scopes.now.declared in
    let library = c.args.library.now in
    let u = c.args.unit.now in
    let first = flat_map item_rows (own_items library) in
    let second = flat_map item_rows (items u) in
    let a = c.new-needs.result in
    let b = c.items_rows.new.needs in
    let d = c.items_rows-2.new.needs in
    grows_then ds first second a b d
    (grows_as ds (flat_map (numbered_rows library) c.as_slice.result.now) first a b (ap (flat_map (numbered_rows library)) c.as_slice.ensures ∙ rows_numbered library c.in_ok-of_library.of_library (own_items library) c.in_ok-of_library.ensures) c.in_ok-items_rows.ensures)
    (grows_as ds (flat_map (numbered_rows u) c.as_slice-2.result.now) second b d (ap (flat_map (numbered_rows u)) c.as_slice-2.ensures ∙ rows_numbered u c.in_ok-of_source.of_source (items u) c.in_ok-of_source.ensures) c.in_ok-items_rows-2.ensures)
    ∙ ap (λ rows. rows ++ graph ds (first ++ second)) c.new-needs.ensures ∙ ap (graph ds) (rows_are library u)
