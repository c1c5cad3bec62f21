use Rattle.std.proofs.Common.{◌≡◌, refl, ◌∙◌, sym, ap, not, true, false, Bool, ◌++◌, ◌∷◌, []}
use Rattle.std.specs.Prelude.{if◌then◌else◌}
use Rattle.std.specs.List.{list_any}
use Rattle.std.specs.Str.{bytes_eq}
use Rattle.plc_scopes.proofs.OwnerLemmas.{place-new, place-old}
use Rattle.plc_scopes.proofs.owners.Owners.place.Goals as goal

from_not : (b : Bool) → not b ≡ false → b ≡ true
from_not true h = refl
from_not false h = cc

pub returns-in_ok-push : goal.returns-in_ok-push
returns-in_ok-push c =
    let o = c.args.self.now in
    place-new c.args.name.now o.names o.lists.items c.add.new.self c.in_ok-place.place c.requires c.in_ok-place.ensures.place c.push.new.self.items
    (c.in_ok-place.ensures.names ∙ ap (λ b. if b then o.names ++ c.args.name.now ∷ [] else o.names) c.if-new.true)
    (c.in_ok-push.ensures.items ∙ ap (λ x. o.lists.items ++ x ∷ []) c.new.ensures)

pub returns-else-new : goal.returns-else-new
returns-else-new c =
    let o = c.args.self.now in
    place-old c.args.name.now o.names o.lists.items c.add.new.self c.in_ok-place.place c.requires c.in_ok-place.ensures.place
    (c.in_ok-place.ensures.names ∙ ap (λ b. if b then o.names ++ c.args.name.now ∷ [] else o.names) c.if-new.false)
    (from_not (list_any (bytes_eq c.args.name.now) o.names) (sym c.in_ok-place.ensures.new ∙ c.if-new.false))
