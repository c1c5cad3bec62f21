use Rattle.std.proofs.Common.{ap, ◌++◌}
use Rattle.std.specs.List.{flat_map}
use Rattle.plc_base.proofs.LeastLaws.{meets_as, meets_next}
use Rattle.plc_typing.specs.Scope.{type_in, variables}
use Rattle.plc_typing.specs.Uses.{suits, is_prog, section_faults, body_faults}
use Rattle.plc_typing.proofs.uses.pou.Goals as goal

pub returns : goal.returns
returns c =
    let p = c.args.pou.now in
    let kind = suits (is_prog p.kind) p.at in
    let a = c.args.met.now in
    let b = c.suits.new.met in
    meets_next c.inside.result kind (flat_map section_faults p.sections ++ body_faults (type_in (variables p.sections)) p.body) a b c.inside.new.met
    (meets_as (suits c.is_prog.result p.at) kind a b (ap (λ does. suits does p.at) c.is_prog.ensures) c.suits.ensures) c.inside.ensures
