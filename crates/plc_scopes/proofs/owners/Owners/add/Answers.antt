use Rattle.std.proofs.lemmas.Result.{on_ok_weaker}
use Rattle.plc_scopes.proofs.OwnerLemmas.{notes-one}
use Rattle.plc_scopes.proofs.owners.Owners.add.Goals as goal

pub returns : goal.returns
returns c =
    let o = c.args.self.now in
    let p = c.place.new.self in
    on_ok_weaker c.note.result
    (notes-one c.args.name.now c.args.number c.in_ok-place.place o.names o.lists.items p.names p.lists.items c.index_mut-list.result.now c.note.new.list _ c.in_ok-place.ensures c.index_mut-list.ensures.value)
    c.note.ensures
