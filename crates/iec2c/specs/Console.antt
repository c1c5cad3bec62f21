-- What the standard streams tell.
use Rattle.std.specs.Prelude.{ℕ, None}
use Rattle.plc_outside.specs.Outside.{ConsoleSeen}

-- so many says and complaints failed, and no more is told
abbrev pub counts_alone : ℕ → ℕ → ConsoleSeen
counts_alone says complaints = record { say_faults = says; complain_faults = complaints; said = None; complained = None; handed = None }
