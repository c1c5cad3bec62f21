use Rattle.std.proofs.Common.{◌≡◌, ap, ◌∙◌}
use Rattle.plc_base.proofs.LeastLaws.{meets_as, meets_then}
use Rattle.plc_typing.specs.Uses.{suits, is_program, reference_faults}
use Rattle.plc_typing.proofs.uses.inst.Goals as goal

pub returns : goal.returns
returns c =
    let x = c.args.inst.now in
    let b = c.reference.new.met in
    let program = suits (is_program c.args.pous.now c.args.config x.program.name) x.program.at in
    let is : c.is_program-known.result ≡ is_program c.args.pous.now c.args.config x.program.name = c.is_program-known.ensures ∙ ap (is_program c.args.pous.now c.args.config) c.bytes.ensures in
    meets_then (reference_faults c.args.tasks.now x.at x.task) program c.args.met.now b c.suits.new.met c.reference.ensures
    (meets_as (suits c.is_program-known.result x.program.at) program b c.suits.new.met (ap (λ known. suits known x.program.at) is) c.suits.ensures)
