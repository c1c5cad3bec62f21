use Rattle.std.proofs.Common.{[], ◌∷◌, refl}
use Rattle.std.specs.List.{flat_map}
use Rattle.std.proofs.lemmas.Result.{on_ok_weaker}
use Rattle.plc_tree.specs.declared.tree.Init as init
use Rattle.plc_names.specs.Needs.{init_owners, element_owners}
use Rattle.plc_needs.specs.Parts.{field_owners}
use Rattle.plc_needs.proofs.Adding.{adds_each, adds_with, adds_on}
use Rattle.plc_needs.proofs.Owners.{owners-List, owners-Struct}
use Rattle.plc_needs.proofs.declarations.+init.Goals as goal

-- ---- lists

pub elements-loop-item-preserved : goal.elements-loop-item-preserved
elements-loop-item-preserved t c =
    adds_on c.args.scopes.now.declared element_owners c.args.items.now c.loop-item.item-index c.item-item.result c.args.row.now.items c.loop-item.row.items c.element.new.row.items c.loop-item-test.true c.item-item.is c.loop-item.invariant c.in_ok-element.ensures

pub fields-loop-part-preserved : goal.fields-loop-part-preserved
fields-loop-part-preserved t c =
    adds_on c.args.scopes.now.declared field_owners c.args.parts.now c.loop-part.part-index c.part-item.result c.args.row.now.items c.loop-part.row.items c.init.new.row.items c.loop-part-test.true c.part-item.is c.loop-part.invariant c.in_ok-init.ensures

-- ---- initial values

pub init-returns-in-Value : goal.init-returns-in-Value
init-returns-in-Value t c =
    let x = c.in-Value in
    adds_with c.args.scopes.now.declared init_owners c.args.init.now (init.Value x.owner x.name x.at x.name_at) (record { name = x.owner; at = x.at } ∷ []) c.need.result c.args.row.now.items c.need.new.row.items x.is refl
    (on_ok_weaker c.need.result (λ h. h x.at) c.need.ensures)

pub init-returns-in-List : goal.init-returns-in-List
init-returns-in-List t c =
    let ds = c.args.scopes.now.declared in
    let x = c.in-List in
    let a = c.args.row.now.items in
    let b = c.elements.new.row.items in
    adds_with ds init_owners c.args.init.now (init.List x.items x.at) (flat_map element_owners x.items) c.elements.result a b x.is (owners-List x.items x.at)
    (on_ok_weaker c.elements.result (adds_each ds element_owners c.as_slice.result.now x.items a b c.as_slice.ensures) c.elements.ensures)

pub init-returns-in-Struct : goal.init-returns-in-Struct
init-returns-in-Struct t c =
    let ds = c.args.scopes.now.declared in
    let x = c.in-Struct in
    let a = c.args.row.now.items in
    let b = c.fields.new.row.items in
    adds_with ds init_owners c.args.init.now (init.Struct x.parts x.at) (flat_map field_owners x.parts) c.fields.result a b x.is (owners-Struct x.parts x.at)
    (on_ok_weaker c.fields.result (adds_each ds field_owners c.as_slice-in-Struct.result.now x.parts a b c.as_slice-in-Struct.ensures) c.fields.ensures)
