use Rattle.std.proofs.Common.{false, ap, ◌∙◌}
use Rattle.std.specs.List.{flat_map}
use Rattle.std.proofs.lemmas.Result.{on_ok_weaker}
use Rattle.plc_names.specs.Items.{own_items}
use Rattle.plc_declared.specs.Row.{added, numbered_entries}
use Rattle.plc_declared.proofs.Adding.{entries_seen}
use Rattle.plc_declared.proofs.row.Declared.library.Goals as goal

pub returns : goal.returns
returns c =
    let u = c.args.library.now in
    on_ok_weaker c.items.result
    (λ h. h ∙ ap (added false c.args.self.now) (ap (flat_map (numbered_entries 1 0 u)) c.as_slice.ensures ∙ entries_seen 1 0 u c.in_ok-list.list (own_items u) c.in_ok-list.ensures))
    c.items.ensures
