use Rattle.std.proofs.Common.{◌≡◌, ◌≤◌, drop, map, min, ◌++◌}
use Rattle.plc_spelling.specs.Addresses as spec
use Rattle.plc_spelling.proofs.addresses.counted.Given as goal

abbrev pub invariant-loop-b : goal.invariant-loop-b
invariant-loop-b l = record {
  kept : l.number ≤ 65536;
  counted : spec.counted l.bytes ≡ l.numbers ++ map (λ n. min n 65536) (spec.split_from l.number (drop l.b-index l.bytes));
}
