-- What a console in memory tells.
use Rattle.std.specs.Prelude.{Some}
use Rattle.plc_outside.specs.Kept.{Kept}
use Rattle.plc_outside.specs.Outside.{ConsoleSeen}
use Rattle.plc_outside.specs.declared.memory_console.MemoryConsole.{MemoryConsole}

abbrev pub console_seen : MemoryConsole → ConsoleSeen
console_seen c = record {
  say_faults = c.say_faults;
  complain_faults = c.complain_faults;
  said = Some c.said.items;
  complained = Some c.complained.items;
  handed = Some c.handed;
}

-- what it keeps beside it
abbrev pub console_kept : MemoryConsole → Kept
console_kept c = record { left = c.left; calls = c.calls; fail = c.fail.items }
