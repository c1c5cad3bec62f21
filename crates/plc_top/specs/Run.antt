-- How a run of planned calls ends.
use Rattle.std.specs.Prelude.{◌≡◌, ◌⊎◌, ℕ, List, [], ◌∷◌, ◌++◌, Result, Ok, Err}
use Rattle.plc_outside.specs.Calls.{Call, Fetches, Puts, Says, World, Finished, Fails, Complains}
use Rattle.plc_top.specs.Lines.{no_memory_line, console_line, read_line, write_line}
use Rattle.plc_top.specs.declared.status.Status.{Status}
use Rattle.plc_top.specs.declared.status.Status.TheVariants.{ReadFault, WriteFault, NoMemory}

-- how a plan ends: with a status and a line that is complained, or it goes on with calls that are not known yet
pub data Ending : Type 0 where
  Ends : (status : Status) (line : List ℕ) → Ending
  GoesOn : Ending

-- the calls that a command makes while all goes well, in order
pub record Plan : Type 0 where
  pub calls : List Call
  pub ending : Ending

abbrev pub plan : List Call → Ending → Plan
plan calls ending = record { calls = calls; ending = ending }

-- a plan with calls before it
abbrev pub after_calls : List Call → Plan → Plan
after_calls calls p = record { calls = calls ++ p.calls; ending = p.ending }

-- the status after a call that failed
abbrev pub fault_status : Call → Status
fault_status (Fetches name) = ReadFault
fault_status (Puts name bytes) = WriteFault
fault_status (Says bytes) = WriteFault

-- the line that names it
abbrev pub fault_line : Call → List ℕ
fault_line (Fetches name) = read_line name
fault_line (Puts name bytes) = write_line name
fault_line (Says bytes) = console_line

-- these calls only fetch
abbrev pub AreFetches : List Call → Type 0
AreFetches [] = Unit {0}
AreFetches (Fetches name ∷ calls) = AreFetches calls
AreFetches (Puts name bytes ∷ calls) = ⊥
AreFetches (Says bytes ∷ calls) = ⊥

-- memory was refused after some of the calls, before anything was put or said
pub record RanOut (calls : List Call) (status : Status) (before now : World) : Type 0 where
  pub is : status ≡ NoMemory
  pub done : List Call
  pub rest : List Call
  pub split : calls ≡ done ++ rest
  pub early : AreFetches done
  pub mid : World
  pub finished : Finished done before mid
  pub told : Complains no_memory_line mid now

-- one of the calls failed, after those before it
pub record Broke (calls : List Call) (status : Status) (before now : World) : Type 0 where
  pub done : List Call
  pub last : Call
  pub rest : List Call
  pub split : calls ≡ done ++ last ∷ rest
  pub is : status ≡ fault_status last
  pub mid : World
  pub finished : Finished done before mid
  pub after : World
  pub failed : Fails last mid after
  pub told : Complains (fault_line last) after now

-- the calls were not all made
abbrev pub Stopped : List Call → Status → World → World → Type 0
Stopped calls status before now = RanOut calls status before now ⊎ Broke calls status before now

-- a step: its calls were all made, or the status says why not
abbrev pub Goes : {T : Type 0} → List Call → Result T Status → World → World → Type 0
Goes calls (Ok x) before now = Finished calls before now
Goes calls (Err status) before now = Stopped calls status before now

-- a step that takes no memory: its calls were all made, or one of them failed
abbrev pub Makes : {T : Type 0} → List Call → Result T Status → World → World → Type 0
Makes calls (Ok x) before now = Finished calls before now
Makes calls (Err status) before now = Broke calls status before now

-- all calls of a plan were made, and its line complained
pub record Completes (p : Plan) (status : Status) (before now : World) : Type 0 where
  pub line : List ℕ
  pub ending : p.ending ≡ Ends status line
  pub mid : World
  pub finished : Finished p.calls before mid
  pub told : Complains line mid now

abbrev pub Runs : Plan → Status → World → World → Type 0
Runs p status before now = Completes p status before now ⊎ Stopped p.calls status before now
