-- The clauses of the headline, for words of the compile form.
use Rattle.std.specs.Prelude.{◌∷◌, ◌≡◌, ◌⊎◌, ℕ, List, [], ◌++◌, take, Option, Some}
use Rattle.std.specs.Option.{option_map}
use Rattle.plc_outside.specs.Outside.{Map, Rose, also, IsPartly}
use Rattle.plc_outside.specs.Calls.{Call, World, Counts, changed}
use Rattle.plc_base.specs.declared.refusal.Refusal.{Refusal}
use Rattle.c_tree.specs.declared.text.CText.{CText}
use Rattle.plc_top.specs.declared.status.Status.{Status}
use Rattle.plc_top.specs.declared.status.Status.TheVariants.{Done, Refused, Usage, ReadFault, WriteFault, NoMemory}
use Rattle.plc_top.specs.Decision.{IsAccepted, IsCompiled, IsRefused}
use Rattle.plc_top.specs.Lines.{refusal_line, write_line, console_line}
use Rattle.plc_top.specs.Run.{Plan, Broke, RanOut, Ends}
use Rattle.plc_top.specs.Plans.{HasSource, source_of, IsPlan, puts_of, lines_of}

-- the files, where they are told, have an accepted source
pub record HasAccepted (name : List ℕ) (known : Option Map) : Type 0 where
  pub source : List ℕ
  pub found : HasSource known name source
  pub accepted : IsAccepted source

-- they have a refused source
pub record HasRefused (name : List ℕ) (known : Option Map) : Type 0 where
  pub source : List ℕ
  pub found : HasSource known name source
  pub why : Refusal
  pub refused : IsRefused source why

-- no fetch, put or say raised its count
pub record IsQuiet (before now : World) : Type 0 where
  pub fetches : Rose before.files.fetch_faults now.files.fetch_faults → ⊥
  pub puts : Rose before.files.put_faults now.files.put_faults → ⊥
  pub says : Rose before.console.say_faults now.console.say_faults → ⊥

-- this line was complained, or, only where a complaint raised its count, its first bytes
abbrev pub IsComplained : List ℕ → World → World → Type 0
IsComplained line before now = (now.console.complained ≡ also line before.console.complained)
    ⊎ (Rose before.console.complain_faults now.console.complain_faults
    × ((n : ℕ) × (now.console.complained ≡ also (take n line) before.console.complained)))

-- Done and Refused come only where they should, and where no count rose exactly there, want of memory aside
pub record Decides (name : List ℕ) (status : Status) (before now : World) : Type 0 where
  pub done : status ≡ Done → HasAccepted name before.files.files
  pub refused : status ≡ Refused → HasRefused name before.files.files
  pub exactly_done : (files : Map) (source : List ℕ) → IsQuiet before now → before.files.files ≡ Some files
      → source_of files name ≡ Some source → IsAccepted source → (status ≡ Done) ⊎ (status ≡ NoMemory)
  pub exactly_refused : (files : Map) (source : List ℕ) (why : Refusal) → IsQuiet before now → before.files.files ≡ Some files
      → source_of files name ≡ Some source → IsRefused source why → (status ≡ Refused) ⊎ (status ≡ NoMemory)

-- this line was complained, no file changed, and nothing was said
pub record Tells (line : List ℕ) (before now : World) : Type 0 where
  pub files : now.files.files ≡ before.files.files
  pub said : now.console.said ≡ before.console.said
  pub complained : IsComplained line before now

-- all texts of the source were put, and their names were said
pub record Writes (source : List ℕ) (before now : World) : Type 0 where
  pub texts : List CText
  pub compiled : IsCompiled source texts
  pub files : now.files.files ≡ option_map (changed (puts_of texts)) before.files.files
  pub said : now.console.said ≡ also (lines_of texts) before.console.said
  pub complained : now.console.complained ≡ before.console.complained

-- what a refusal leaves
pub record LeavesRefused (name : List ℕ) (before now : World) : Type 0 where
  pub source : List ℕ
  pub found : HasSource before.files.files name source
  pub why : Refusal
  pub refused : IsRefused source why
  pub tells : Tells (refusal_line name why) before now

-- what a compile that is done leaves
pub record LeavesWritten (name : List ℕ) (before now : World) : Type 0 where
  pub source : List ℕ
  pub found : HasSource before.files.files name source
  pub writes : Writes source before now

-- a put failed: the texts before it are whole, its file holds the first of its bytes or what it held, and nothing was said
pub record PutFailed (texts : List CText) (before now : World) : Type 0 where
  pub whole : List CText
  pub text : CText
  pub rest : List CText
  pub split : texts ≡ whole ++ text ∷ rest
  pub files : IsPartly text.name text.bytes (option_map (changed (puts_of whole)) before.files.files) now.files.files
  pub said : now.console.said ≡ before.console.said
  pub complained : IsComplained (write_line text.name) before now

-- the say failed: all texts are whole, and the first of their names were said
pub record SayFailed (texts : List CText) (before now : World) : Type 0 where
  pub files : now.files.files ≡ option_map (changed (puts_of texts)) before.files.files
  pub count : ℕ
  pub said : now.console.said ≡ also (take count (lines_of texts)) before.console.said
  pub complained : IsComplained console_line before now

-- what a compile leaves that could not write
pub record LeavesHalf (name : List ℕ) (before now : World) : Type 0 where
  pub source : List ℕ
  pub found : HasSource before.files.files name source
  pub texts : List CText
  pub compiled : IsCompiled source texts
  pub failed : PutFailed texts before now ⊎ SayFailed texts before now

-- of a source that is told, with no rise, all that is due was done, or memory was refused
pub record IsComplete (name : List ℕ) (status : Status) (before now : World) : Type 0 where
  pub accepted : (files : Map) (source : List ℕ) → IsQuiet before now → before.files.files ≡ Some files
      → source_of files name ≡ Some source → IsAccepted source → ((status ≡ Done) × Writes source before now) ⊎ (status ≡ NoMemory)
  pub refused : (files : Map) (source : List ℕ) (why : Refusal) → IsQuiet before now → before.files.files ≡ Some files
      → source_of files name ≡ Some source → IsRefused source why → ((status ≡ Refused) × Tells (refusal_line name why) before now) ⊎ (status ≡ NoMemory)

-- the statuses that cut a command short
abbrev pub IsCutShort : Status → Type 0
IsCutShort Done = ⊥
IsCutShort Refused = ⊥
IsCutShort Usage = ⊥
IsCutShort ReadFault = Unit {0}
IsCutShort WriteFault = Unit {0}
IsCutShort NoMemory = Unit {0}

-- the account: the calls that were made are first calls of the plan, all of them where nothing cut it short
pub record Account (words : List (List ℕ)) (status : Status) (before now : World) : Type 0 where
  pub p : Plan
  pub planned : IsPlan words before.files.files p
  pub made : List Call
  pub rest : List Call
  pub split : p.calls ≡ made ++ rest
  pub whole : IsCutShort status ⊎ ((line : List ℕ) × (p.ending ≡ Ends status line) × (rest ≡ []))
  pub counts : Counts made before now

-- a fault ends the calls of a plan
pub record EndsByFault (words : List (List ℕ)) (status : Status) (before now : World) : Type 0 where
  pub p : Plan
  pub planned : IsPlan words before.files.files p
  pub broke : Broke p.calls status before now

-- memory was refused after some calls of a plan
pub record EndsByWant (words : List (List ℕ)) (status : Status) (before now : World) : Type 0 where
  pub p : Plan
  pub planned : IsPlan words before.files.files p
  pub ran : RanOut p.calls status before now
