use Rattle.std.proofs.Common.{◌≡◌, ap, ◌∙◌, ℕ, List}
use Rattle.std.specs.List.{flat_map}
use Rattle.plc_typing.specs.Scope.{type_in, types_of, variables}
use Rattle.plc_typing.specs.Typing as spec
use Rattle.plc_typing.proofs.typing.typed_pou.Goals as goal

pub returns : goal.returns
returns c =
    let p = c.args.pou.now in
    let names = c.args.numbers.now in
    let same : (name : List ℕ) → types_of c.in_ok-scope.scope name ≡ type_in (variables p.sections) name = λ name. c.in_ok-scope.ensures name ∙ ap (λ ss. type_in (variables ss) name) c.as_slice.ensures in
    let body : c.in_ok-typed_body.field-0 ≡ spec.typed_of_body names (type_in (variables p.sections)) p.body = c.in_ok-typed_body.ensures ∙ (λ i. spec.typed_of_body names (λ name. same name i) p.body) in
    let vars : c.in_ok-typed_sections.field-0 ≡ flat_map (spec.typed_section names) p.sections = c.in_ok-typed_sections.ensures ∙ ap (flat_map (spec.typed_section names)) c.as_slice-2.ensures in
    λ i. record { id = c.in_ok-of.ensures i; kind = p.kind; name = c.in_ok-copied.ensures i; vars = vars i; body = body i }
