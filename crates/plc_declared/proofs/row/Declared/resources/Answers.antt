use Rattle.std.proofs.Common.{ap, ◌∙◌}
use Rattle.plc_names.specs.Declarations.{resource_entries}
use Rattle.plc_declared.specs.Row.{added}
use Rattle.plc_declared.proofs.Adding.{added_numbered, all_numbered}
use Rattle.plc_declared.proofs.row.Declared.resources.Goals as goal

pub loop-k-preserved : goal.loop-k-preserved
loop-k-preserved c =
    let r = c.index-resources-k.result in
    let inner = ap (λ n. added c.args.own c.loop-k.self (resource_entries c.args.scope (n, r))) c.in_ok-inner.ensures in
    added_numbered c.args.own c.args.self.now c.loop-k.self c.args.first c.args.resources.now c.loop-k.k (resource_entries c.args.scope) c.resource.new.self r c.loop-k-test.true c.index-resources-k.is c.loop-k.invariant (c.in_ok-resource.ensures ∙ inner)

pub returns : goal.returns
returns c = all_numbered c.args.own c.args.self.now c.loop-k.self c.args.first c.args.resources.now c.loop-k.k (resource_entries c.args.scope) c.loop-k-test.false c.loop-k.invariant
