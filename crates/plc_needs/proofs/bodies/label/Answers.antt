use Rattle.std.proofs.Common.{[], ◌∷◌, ap}
use Rattle.std.proofs.lemmas.Result.{on_ok_weaker}
use Rattle.plc_tree.specs.declared.tree.Label.TheVariants.{Value}
use Rattle.plc_names.specs.Needs.{label_needs}
use Rattle.plc_needs.proofs.Adding.{adds_with}
use Rattle.plc_needs.proofs.bodies.label.Goals as goal

pub returns-in-Some : goal.returns-in-Some
returns-in-Some c =
    let x = c.in-Value in
    adds_with c.args.scopes.now.declared label_needs c.args.label.now (Value x.owner x.name x.at x.name_at) (record { name = c.in-Some.owner; at = x.at } ∷ []) c.need.result c.args.row.now.items c.need.new.row.items x.is
    (ap (λ owner. label_needs (Value owner x.name x.at x.name_at)) c.in-Some.is) (on_ok_weaker c.need.result (λ h. h x.at) c.need.ensures)
