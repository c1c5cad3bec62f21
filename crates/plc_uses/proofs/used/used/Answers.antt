use Rattle.std.proofs.Common.{◌≡◌, ap, ◌∙◌}
use Rattle.std.specs.Prelude.{not, ◌||◌, ◌++◌}
use Rattle.plc_base.specs.Least.{unless}
use Rattle.plc_base.specs.declared.refusal.Rule.TheVariants.{N2, N3, N4}
use Rattle.plc_base.proofs.LeastLaws.{meets_as, meets_then}
use Rattle.plc_names.specs.Rules.{is_nothing, is_later, fits, found}
use Rattle.plc_types.specs.Known.{world_of}
use Rattle.plc_uses.proofs.used.used.Goals as goal

pub returns : goal.returns
returns c =
    let w = world_of c.args.known.now in
    let x = c.args in
    let is : c.bytes-bytes.result.now ≡ x.name.now = c.bytes-bytes.ensures in
    let a = x.met.now in
    let b = c.want.new.self in
    let d = c.want-2.new.self in
    let e = c.want-3.new.self in
    let unknown = unless (not (is_nothing (found w x.name.now))) N2 x.at in
    let wrong = unless (fits w x.want x.name.now (found w x.name.now)) N3 x.at in
    let early = unless (x.forward || not (is_later x.at (found w x.name.now))) N4 x.at in
    meets_then unknown (wrong ++ early) a b e
    (meets_as _ unknown a b (ap (λ t. unless t N2 x.at) (ap not c.is_nothing.ensures ∙ ap (λ n. not (is_nothing (found w n))) is)) c.want.ensures)
    (meets_then wrong early b d e
    (meets_as _ wrong b d (ap (λ t. unless t N3 x.at) (c.fits.ensures ∙ ap (λ n. fits w x.want n (found w n)) is)) c.want-2.ensures)
    (meets_as _ early d e (ap (λ t. unless t N4 x.at) (c.is_in_order.ensures ∙ ap (λ n. x.forward || not (is_later x.at (found w n))) is)) c.want-3.ensures))
