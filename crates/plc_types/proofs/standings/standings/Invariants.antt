use Rattle.std.proofs.Common.{◌≡◌, take, length}
use Rattle.plc_types.specs.Standings.{nothing, found_along}
use Rattle.plc_types.proofs.standings.standings.Given as goal

abbrev pub invariant-loop-number : goal.invariant-loop-number
invariant-loop-number l = l.found.items ≡ found_along l.scopes.declared l.circles.circular (nothing (length l.scopes.declared)) (take l.number-index l.order)
