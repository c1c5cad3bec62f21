use Rattle.std.proofs.Common.{sym, ap, ◌∙◌, [], get_or, arith}
use Rattle.plc_scopes.proofs.OwnedLemmas.{list_at_place, no_list_at}
use Rattle.plc_scopes.proofs.owners.Owners.find.Goals as goal

pub returns-in-Some-get : goal.returns-in-Some-get
returns-in-Some-get c =
    let x = c.args.self.now in
    c.as_slice.ensures ∙ c.in-Some-get.ensures.lookup.3.1 [] ∙ ap (λ ls. get_or ls c.in-Some.place []) c.deref.ensures.value
    ∙ sym (list_at_place c.args.name.now c.in-Some.place x.names x.lists.items (sym c.in-Some.ensures))

pub returns-in-None-get : goal.returns-in-None-get
returns-in-None-get c =
    let x = c.args.self.now in
    c.in-None-get.ensures.lookup.4 (omega arith) [] ∙ ap (λ ls. get_or ls c.in-Some.place []) c.deref.ensures.value
    ∙ sym (list_at_place c.args.name.now c.in-Some.place x.names x.lists.items (sym c.in-Some.ensures))

pub returns-in-None : goal.returns-in-None
returns-in-None c =
    let x = c.args.self.now in
    sym (no_list_at c.args.name.now x.names x.lists.items (sym c.find.ensures ∙ c.in-None.is))
