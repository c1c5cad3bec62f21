use Rattle.std.specs.Str.{bytes_eq}
use Rattle.plc_tree.specs.declared.tree.Id.{Id}
use Rattle.plc_needs.proofs.Joining.{joins_on}
use Rattle.plc_needs.proofs.own.Own.decl.Goals as goal

pub loop-id-preserved : goal.loop-id-preserved
loop-id-preserved c =
    let lt = rw c.as_slice-id-items.ensures at c.loop-id-test.true in
    let is = rw c.as_slice-id-items.ensures at c.id-item.is in
    joins_on (λ (n : Id) name. bytes_eq name n.name) c.args.decl.now.names c.loop-id.id-index c.id-item.result c.args.self.now c.loop-id.self c.add.new.self lt is c.loop-id.invariant c.in_ok-add.ensures
