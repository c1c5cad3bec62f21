use Rattle.std.proofs.Common.{◌≡◌, sym, ap, ◌∙◌, List, [], ◌∷◌, Bool, false}
use Rattle.std.specs.Prelude.{if◌then◌else◌}
use Rattle.std.proofs.lemmas.Result.{on_ok_weaker}
use Rattle.plc_tree.specs.declared.tree.Id.{Id}
use Rattle.plc_names.specs.Needs.{called}
use Rattle.plc_needs.specs.Own.{has}
use Rattle.plc_needs.proofs.Adding.{adds_as}
use Rattle.plc_needs.proofs.name.call.Goals as goal

pub returns : goal.returns
returns c =
    let own = has c.args.own.now in
    let name = c.args.name.now in
    let not_own : own name ≡ false = sym c.has.ensures ∙ c.if-has.false in
    on_ok_weaker c.need.result
    (λ h at.
    let one : List Id = record { name = name; at = at } ∷ [] in
    adds_as c.args.scopes.now.declared one (called own name at) c.args.row.now.items c.need.new.row.items (sym (ap (λ (b : Bool). if b then [] else one) not_own)) (h at))
    c.need.ensures
