use Rattle.std.proofs.Common.{◌≡◌}
use Rattle.plc_types.specs.Standings as all
use Rattle.plc_types.proofs.standings.nothing.Given as goal

abbrev pub invariant-loop : goal.invariant-loop
invariant-loop l = l.found.items ≡ all.nothing l.counter
