use Rattle.std.proofs.Common.{◌≡◌, ap, ◌∙◌, ◌++◌, Some}
use Rattle.std.specs.List.{flat_map}
use Rattle.plc_base.specs.declared.elem.Elem.TheVariants.{Int}
use Rattle.plc_base.proofs.LeastLaws.{meets_as, meets_each, meets_next}
use Rattle.plc_typing.specs.Plain.{is_of}
use Rattle.plc_typing.specs.Scope.{types_of}
use Rattle.plc_typing.specs.Uses.{suits, part_faults, expr_faults}
use Rattle.plc_typing.proofs.bodies.counted.Goals as goal

pub returns : goal.returns
returns c =
    let types = types_of c.args.scope.now in
    let v = c.args.variable.now in
    let a = c.args.met.now in
    let b = c.suits.new.met in
    let d = c.no_parts.new.met in
    let m = c.expression.new.met in
    let n = c.expression-2.new.met in
    let here = suits (is_of Int (types v.first)) v.at in
    let parts = flat_map part_faults v.parts in
    let first = expr_faults types (Some Int) c.args.start.now in
    let last = expr_faults types (Some Int) c.args.limit.now in
    let is : c.is_of.result ≡ is_of Int (types v.first) = c.is_of.ensures ∙ ap (is_of Int) c.in_ok-elem.ensures in
    meets_next c.expression-2.result here (parts ++ (first ++ last)) a b n (meets_as (suits c.is_of.result v.at) here a b (ap (λ does. suits does v.at) is) c.suits.ensures)
    (meets_next c.expression-2.result parts (first ++ last) b d n (meets_each part_faults c.as_slice.result.now v.parts b d c.as_slice.ensures c.no_parts.ensures)
    (meets_next c.expression-2.result first last d m n c.in_ok-expression.ensures c.expression-2.ensures))
