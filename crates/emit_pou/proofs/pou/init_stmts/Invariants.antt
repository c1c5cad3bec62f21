use Rattle.std.proofs.Common.{◌≡◌, take}
use Rattle.std.specs.List.{flat_map}
use Rattle.emit_pou.specs.Emitted as spec
use Rattle.emit_pou.proofs.pou.init_stmts.Given as goal

abbrev pub invariant-loop-var : goal.invariant-loop-var
invariant-loop-var l = l.items ≡ flat_map spec.init_stmt (take l.var-index l.vars)
