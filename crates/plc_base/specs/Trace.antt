-- The events of a run, and what it shows.
use Rattle.std.specs.Prelude.{ℕ, ℤ, List}
use Rattle.plc_base.specs.Numbers.{Fits}
use Rattle.plc_base.specs.declared.elem.Elem.TheVariants.{Time}
use Rattle.plc_base.specs.declared.which.Which.{Which}

-- what may happen to a running unit
pub data Event : Type 0 where
  -- the input cell with an address, given by its bytes, gets a number
  Input : (address : List ℕ) (value : ℤ) → Event
  -- a listed row, by its number from 0, is held at a number
  Force : (row : ℕ) (value : ℤ) → Event
  Release : (row : ℕ) → Event
  -- a scan at a moment, in nanoseconds
  Scan : (moment : ℤ) → Event
  -- all begins anew
  ColdStart : Event
  -- likewise, but what is kept stays as it was seen
  WarmStart : Event

-- what the scan of a number shows, that its turns pass the bound, or that it meets what is undefined (number 0 is a start)
pub data Entry : Type 0 where
  Shows : (number : ℕ) (moment : ℤ) (outputs rows : List ℤ) → Entry
  PastAt : (number : ℕ) → Entry
  UndefinedAt : (number : ℕ) (which : Which) → Entry

-- a moment lies from -2^63 to 2^63-1
abbrev pub IsMoment : ℤ → Type 0
IsMoment moment = Fits Time moment
