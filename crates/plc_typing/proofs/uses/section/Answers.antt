use Rattle.std.proofs.Common.{ap}
use Rattle.std.specs.List.{flat_map}
use Rattle.plc_base.proofs.LeastLaws.{meets_as, meets_each, meets_then}
use Rattle.plc_typing.specs.Uses.{suits, is_plain_section, decl_faults}
use Rattle.plc_typing.proofs.uses.section.Goals as goal

pub returns : goal.returns
returns c =
    let s = c.args.section.now in
    let plain = suits (is_plain_section s) s.at in
    let a = c.args.met.now in
    let b = c.suits.new.met in
    let d = c.decls.new.met in
    meets_then plain (flat_map decl_faults s.decls) a b d
    (meets_as (suits c.is_plain_section.result s.at) plain a b (ap (λ does. suits does s.at) c.is_plain_section.ensures) c.suits.ensures)
    (meets_each decl_faults c.as_slice.result.now s.decls b d c.as_slice.ensures c.decls.ensures)
