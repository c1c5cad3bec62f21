use Rattle.std.proofs.Common.{◌≡◌, map, take}
use Rattle.emit_pou.specs.Emitted as spec
use Rattle.emit_pou.proofs.conf.inst_objects.Given as goal

abbrev pub invariant-loop-inst : goal.invariant-loop-inst
invariant-loop-inst l = l.items ≡ map (spec.inst_object l.unit l.resource) (take l.inst-index l.resource.insts)
