use Rattle.std.proofs.Common.{◌≡◌, ◌++◌, ap, ◌∙◌}
use Rattle.std.specs.List.{flat_map}
use Rattle.std.proofs.lemmas.Result.{on_ok_weaker}
use Rattle.plc_names.specs.Needs.{IsOwn, result_needs, section_needs, body_needs, sections_have}
use Rattle.plc_needs.specs.Own.{has}
use Rattle.plc_needs.proofs.Adding.{adds_next, adds_each, adds_of}
use Rattle.plc_needs.proofs.declarations.pou.Goals as goal

pub returns : goal.returns
returns c =
    let ds = c.args.scopes.now.declared in
    let p = c.args.pou.now in
    let own : IsOwn = has c.in_ok-own.own in
    let same : own ≡ sections_have p.sections = λ i name. (c.in_ok-own.ensures name ∙ ap (λ ss. sections_have ss name) c.as_slice.ensures) i in
    let r = c.body.result in
    let a = c.args.row.now.items in
    let b = c.returned.new.row.items in
    let d = c.sections.new.row.items in
    let z = c.body.new.row.items in
    let sections = flat_map section_needs p.sections in
    let body = body_needs (sections_have p.sections) p.body in
    adds_next ds r (result_needs p.result) (sections ++ body) a b z c.in_ok-returned.ensures
    (adds_next ds r sections body b d z (adds_each ds section_needs c.as_slice-2.result.now p.sections b d c.as_slice-2.ensures c.in_ok-sections.ensures)
    (on_ok_weaker r (adds_of ds (λ (own : IsOwn). body_needs own p.body) own (sections_have p.sections) d z same) c.body.ensures))
