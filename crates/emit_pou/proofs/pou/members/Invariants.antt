use Rattle.std.proofs.Common.{◌≡◌, map, take}
use Rattle.emit_pou.specs.Emitted as spec
use Rattle.emit_pou.proofs.pou.members.Given as goal

abbrev pub invariant-loop-var : goal.invariant-loop-var
invariant-loop-var l = l.items ≡ map spec.member (take l.var-index l.vars)
