use Rattle.std.proofs.Common.{◌≡◌, ap, ◌∙◌, map, Some}
use Rattle.std.specs.List.{enumerate_from}
use Rattle.std.proofs.lemmas.Result.{IfOk-weaker}
use Rattle.plc_names.specs.Items.{type_item, pou_item}
use Rattle.plc_names.specs.Items as defined
use Rattle.plc_declared.specs.Order.{seen, merged}
use Rattle.plc_declared.proofs.Ordering.{merged_seen}
use Rattle.plc_declared.proofs.order.own_items.Goals as goal

pub returns : goal.returns
returns c =
    let u = c.args.unit.now in
    let xs = c.as_slice.result.now in
    let ys = c.as_slice-2.result.now in
    IfOk-weaker c.merge.result (λ items. items ≡ merged xs ys) (λ items. map (seen u) items ≡ map Some (defined.own_items u))
    (λ items e. ap (map (seen u)) e ∙ merged_seen u xs ys (map type_item u.types) (map pou_item (enumerate_from 0 u.pous)) (ap (map (seen u)) c.as_slice.ensures ∙ c.in_ok-types.ensures) (ap (map (seen u)) c.as_slice-2.ensures ∙ c.in_ok-pous.ensures))
    c.merge.ensures
