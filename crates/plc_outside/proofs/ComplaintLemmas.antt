-- A complaint, as one line.
use Rattle.std.proofs.Common.{[], refl, sym, arith}
use Rattle.plc_outside.specs.Outside.{ConsoleSeen}
use Rattle.plc_outside.specs.Calls.{AllComplained}
use Rattle.plc_outside.proofs.CallsLemmas.{also-nothing}

pub AllComplained-nothing : (c : ConsoleSeen) → AllComplained [] c c
AllComplained-nothing c = record {
  later = omega arith;
  say_faults = refl;
  said = refl;
  handed = refl;
  complained = sym (also-nothing c.complained);
}
