use Rattle.std.proofs.Common.{◌≡◌, ap, ◌∙◌, map, Some}
use Rattle.std.proofs.lemmas.Result.{IfOk-weaker}
use Rattle.plc_names.specs.Items.{config_item, first_config}
use Rattle.plc_names.specs.Items as defined
use Rattle.plc_declared.specs.Order.{seen, merged}
use Rattle.plc_declared.proofs.Ordering.{merged_seen}
use Rattle.plc_declared.proofs.order.items.Goals as goal

pub returns : goal.returns
returns c =
    let u = c.args.unit.now in
    let xs = c.as_slice.result.now in
    let ys = c.as_slice-2.result.now in
    IfOk-weaker c.merge.result (λ items. items ≡ merged xs ys) (λ items. map (seen u) items ≡ map Some (defined.items u))
    (λ items e. ap (map (seen u)) e ∙ merged_seen u xs ys (defined.own_items u) (map config_item (first_config u)) (ap (map (seen u)) c.as_slice.ensures ∙ c.in_ok-own.ensures) (ap (map (seen u)) c.as_slice-2.ensures ∙ c.in_ok-configs.ensures))
    c.merge.ensures
