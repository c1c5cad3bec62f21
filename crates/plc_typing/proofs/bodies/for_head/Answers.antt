use Rattle.plc_base.proofs.LeastLaws.{meets_next}
use Rattle.plc_typing.specs.Scope.{types_of}
use Rattle.plc_typing.specs.Uses.{step_faults}
use Rattle.plc_typing.specs.UsesOfParts.{counted_faults}
use Rattle.plc_typing.proofs.bodies.for_head.Goals as goal

pub returns : goal.returns
returns c =
    let types = types_of c.args.scope.now in
    meets_next c.step.result (counted_faults types c.args.variable.now c.args.start.now c.args.limit.now) (step_faults types c.args.by.now) c.args.met.now c.counted.new.met c.step.new.met c.in_ok-counted.ensures c.step.ensures
