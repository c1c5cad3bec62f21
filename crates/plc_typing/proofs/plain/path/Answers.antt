use Rattle.std.proofs.Common.{◌≡◌, ap, ◌∙◌}
use Rattle.std.specs.Prelude.{is_some}
use Rattle.std.specs.List.{flat_map}
use Rattle.plc_base.proofs.LeastLaws.{meets_as, meets_each, meets_then}
use Rattle.plc_typing.specs.Scope.{types_of}
use Rattle.plc_typing.specs.Uses.{suits, part_faults}
use Rattle.plc_typing.proofs.plain.path.Goals as goal

pub returns-clause-met : goal.returns-clause-met
returns-clause-met c =
    let p = c.args.path.now in
    let a = c.args.met.now in
    let b = c.suits.new.met in
    let known = suits (is_some (types_of c.args.scope.now p.first)) p.at in
    let is : c.is_some.result ≡ is_some (types_of c.args.scope.now p.first) = c.is_some.ensures ∙ ap is_some c.in_ok-elem.ensures in
    let here = meets_as (suits c.is_some.result p.at) known a b (ap (λ known. suits known p.at) is) c.suits.ensures in
    meets_then known (flat_map part_faults p.parts) a b c.no_parts.new.met here (meets_each part_faults c.as_slice.result.now p.parts b c.no_parts.new.met c.as_slice.ensures c.no_parts.ensures)
