use Rattle.std.proofs.Common.{◌≡◌, true, ap, ◌∙◌, ◌+◌}
use Rattle.std.specs.List.{flat_map}
use Rattle.std.proofs.lemmas.Result.{on_ok_weaker}
use Rattle.plc_names.specs.Declarations.{first_scope, config_scope}
use Rattle.plc_names.specs.Items.{items}
use Rattle.plc_declared.specs.Row.{added, numbered_entries}
use Rattle.plc_declared.proofs.Adding.{entries_seen}
use Rattle.plc_declared.proofs.row.Declared.source.Goals as goal

pub returns : goal.returns
returns c =
    let library = c.args.library.now in
    let u = c.args.unit.now in
    let row = c.args.self.now in
    let first : c.in_ok-first.first ≡ first_scope library = c.in_ok-first.ensures ∙ ap (λ n. 1 + n) c.len.ensures in
    let config : c.in_ok-behind.field-0 ≡ config_scope library u = c.in_ok-behind.ensures ∙ (λ i. first i + c.len-2.ensures i) in
    on_ok_weaker c.items-2.result
    (λ h. h
    ∙ (λ i. added true row (flat_map (numbered_entries (first i) (config i) u) c.as_slice.result.now))
    ∙ ap (added true row) (ap (flat_map (numbered_entries (first_scope library) (config_scope library u) u)) c.as_slice.ensures
    ∙ entries_seen (first_scope library) (config_scope library u) u c.in_ok-list.list (items u) c.in_ok-list.ensures))
    c.items-2.ensures
