use Rattle.std.proofs.Common.{◌≡◌, map, take}
use Rattle.emit_pou.specs.Emitted as spec
use Rattle.emit_pou.proofs.conf.body_calls.Given as goal

abbrev pub invariant-loop-inst : goal.invariant-loop-inst
invariant-loop-inst l = l.stmts ≡ map (spec.body_call l.unit l.resource) (take l.inst-index l.resource.insts)
