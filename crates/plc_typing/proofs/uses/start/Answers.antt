use Rattle.std.proofs.Common.{ap}
use Rattle.plc_base.proofs.LeastLaws.{meets_as, meets_then}
use Rattle.plc_typing.specs.Scope.{elem_of_spec}
use Rattle.plc_typing.specs.Uses.{suits, is_built_spec, place_of_spec, init_faults}
use Rattle.plc_typing.proofs.uses.start.Goals as goal

pub returns : goal.returns
returns c =
    let d = c.args.decl.now in
    let built = suits (is_built_spec d.spec) (place_of_spec d.spec) in
    let starts = init_faults (elem_of_spec d.spec) d.init in
    let a = c.args.met.now in
    let b = c.suits.new.met in
    let e = c.init.new.met in
    meets_then built starts a b e
    (meets_as (suits c.is_built_spec.result c.place_of_spec.result) built a b (λ i. suits (c.is_built_spec.ensures i) (c.place_of_spec.ensures i)) c.suits.ensures)
    (meets_as (init_faults c.elem_of_spec.result d.init) starts b e (ap (λ ty. init_faults ty d.init) c.elem_of_spec.ensures) c.init.ensures)
