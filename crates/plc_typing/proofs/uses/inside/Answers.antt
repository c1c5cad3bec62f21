use Rattle.std.proofs.Common.{◌≡◌, ap, ◌∙◌, ℕ, List}
use Rattle.std.specs.List.{flat_map}
use Rattle.std.proofs.lemmas.Result.{on_ok_weaker}
use Rattle.plc_base.proofs.LeastLaws.{meets_as, meets_each, meets_next}
use Rattle.plc_typing.specs.Scope.{type_in, types_of, variables}
use Rattle.plc_typing.specs.Uses.{section_faults, body_faults}
use Rattle.plc_typing.proofs.uses.inside.Goals as goal

pub returns : goal.returns
returns c =
    let p = c.args.pou.now in
    let a = c.args.met.now in
    let b = c.sections.new.met in
    let types = type_in (variables p.sections) in
    let same : (name : List ℕ) → types_of c.in_ok-scope.scope name ≡ types name = λ name. c.in_ok-scope.ensures name ∙ ap (λ ss. type_in (variables ss) name) c.as_slice-2.ensures in
    meets_next c.body.result (flat_map section_faults p.sections) (body_faults types p.body) a b c.body.new.met
    (meets_each section_faults c.as_slice.result.now p.sections a b c.as_slice.ensures c.sections.ensures)
    (on_ok_weaker c.body.result (meets_as (body_faults (types_of c.in_ok-scope.scope) p.body) (body_faults types p.body) b c.body.new.met (λ i. body_faults (λ name. same name i) p.body)) c.body.ensures)
