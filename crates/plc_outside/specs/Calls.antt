-- Calls of the outside, and what a run of them leaves.
use Rattle.std.specs.Prelude.{◌≡◌, ◌⊎◌, ℕ, ◌+◌, ◌≤◌, List, [], ◌∷◌, ◌++◌, length, take}
use Rattle.std.specs.Option.{option_map}
use Rattle.std.specs.FinMap as map
use Rattle.plc_outside.specs.Outside.{FilesSeen, ConsoleSeen, Map, Rose, counted, also, IsPartly}

-- a call that is counted; complaints are not
pub data Call : Type 0 where
  Fetches : (name : List ℕ) → Call
  Puts : (name bytes : List ℕ) → Call
  Says : (bytes : List ℕ) → Call

-- the names that were asked for
abbrev pub asked_in : List Call → List (List ℕ)
asked_in [] = []
asked_in (Fetches name ∷ calls) = name ∷ asked_in calls
asked_in (Puts name bytes ∷ calls) = asked_in calls
asked_in (Says bytes ∷ calls) = asked_in calls

-- how many puts there are
abbrev pub puts_in : List Call → ℕ
puts_in [] = 0
puts_in (Fetches name ∷ calls) = puts_in calls
puts_in (Puts name bytes ∷ calls) = 1 + puts_in calls
puts_in (Says bytes ∷ calls) = puts_in calls

-- the bytes handed to puts, and one for each
abbrev pub handed_in : List Call → ℕ
handed_in [] = 0
handed_in (Fetches name ∷ calls) = handed_in calls
handed_in (Puts name bytes ∷ calls) = (length name + length bytes + 1) + handed_in calls
handed_in (Says bytes ∷ calls) = handed_in calls

-- the bytes handed to says, and one for each
abbrev pub say_handed_in : List Call → ℕ
say_handed_in [] = 0
say_handed_in (Fetches name ∷ calls) = say_handed_in calls
say_handed_in (Puts name bytes ∷ calls) = say_handed_in calls
say_handed_in (Says bytes ∷ calls) = (length bytes + 1) + say_handed_in calls

-- the bytes said
abbrev pub said_in : List Call → List ℕ
said_in [] = []
said_in (Fetches name ∷ calls) = said_in calls
said_in (Puts name bytes ∷ calls) = said_in calls
said_in (Says bytes ∷ calls) = bytes ++ said_in calls

-- the files after these calls
abbrev pub changed : List Call → Map → Map
changed [] files = files
changed (Fetches name ∷ calls) files = changed calls files
changed (Puts name bytes ∷ calls) files = changed calls (map.insert files name bytes)
changed (Says bytes ∷ calls) files = changed calls files

-- the outside: files and a console
pub record World : Type 0 where
  pub files : FilesSeen
  pub console : ConsoleSeen

abbrev pub world : FilesSeen → ConsoleSeen → World
world files console = record { files = files; console = console }

-- what is counted of these calls, failed ones among them
pub record Counts (calls : List Call) (before now : World) : Type 0 where
  pub fetch_later : before.files.fetch_faults ≤ now.files.fetch_faults
  pub put_later : before.files.put_faults ≤ now.files.put_faults
  pub say_later : before.console.say_faults ≤ now.console.say_faults
  pub complain_later : before.console.complain_faults ≤ now.console.complain_faults
  pub asked : now.files.asked ≡ also (asked_in calls) before.files.asked
  pub puts : now.files.puts ≡ counted (puts_in calls) before.files.puts
  pub handed : now.files.handed ≡ counted (handed_in calls) before.files.handed
  pub say_handed : now.console.handed ≡ counted (say_handed_in calls) before.console.handed

-- these calls were made, each answered Ok, and no complaint
pub record Finished (calls : List Call) (before now : World) : Type 0 where
  pub counts : Counts calls before now
  pub files : now.files.files ≡ option_map (changed calls) before.files.files
  pub said : now.console.said ≡ also (said_in calls) before.console.said
  pub complained : now.console.complained ≡ before.console.complained

-- the count that a failed call raises
abbrev pub RoseBy : Call → World → World → Type 0
RoseBy (Fetches name) before now = Rose before.files.fetch_faults now.files.fetch_faults
RoseBy (Puts name bytes) before now = Rose before.files.put_faults now.files.put_faults
RoseBy (Says bytes) before now = Rose before.console.say_faults now.console.say_faults

-- the files after a failed call
abbrev pub FilesAfterFailed : Call → World → World → Type 0
FilesAfterFailed (Fetches name) before now = now.files.files ≡ before.files.files
FilesAfterFailed (Puts name bytes) before now = IsPartly name bytes before.files.files now.files.files
FilesAfterFailed (Says bytes) before now = now.files.files ≡ before.files.files

-- what is said after a failed call
abbrev pub SaidAfterFailed : Call → World → World → Type 0
SaidAfterFailed (Fetches name) before now = now.console.said ≡ before.console.said
SaidAfterFailed (Puts name bytes) before now = now.console.said ≡ before.console.said
SaidAfterFailed (Says bytes) before now = (n : ℕ) × (now.console.said ≡ also (take n bytes) before.console.said)

-- this call was made and failed
pub record Fails (call : Call) (before now : World) : Type 0 where
  pub counts : Counts (call ∷ []) before now
  pub rose : RoseBy call before now
  pub files : FilesAfterFailed call before now
  pub said : SaidAfterFailed call before now
  pub complained : now.console.complained ≡ before.console.complained

-- all of this line was complained
pub record AllComplained (line : List ℕ) (before now : ConsoleSeen) : Type 0 where
  pub later : before.complain_faults ≤ now.complain_faults
  pub say_faults : now.say_faults ≡ before.say_faults
  pub said : now.said ≡ before.said
  pub handed : now.handed ≡ before.handed
  pub complained : now.complained ≡ also line before.complained

-- a complaint failed, and the first bytes of this line were complained
pub record PartComplained (line : List ℕ) (before now : ConsoleSeen) : Type 0 where
  pub rose : Rose before.complain_faults now.complain_faults
  pub later : before.complain_faults ≤ now.complain_faults
  pub say_faults : now.say_faults ≡ before.say_faults
  pub said : now.said ≡ before.said
  pub handed : now.handed ≡ before.handed
  pub count : ℕ
  pub complained : now.complained ≡ also (take count line) before.complained

abbrev pub Complained : List ℕ → ConsoleSeen → ConsoleSeen → Type 0
Complained line before now = AllComplained line before now ⊎ PartComplained line before now

-- this line was complained, or, where a complaint failed, its first bytes; nothing else was done
pub record Complains (line : List ℕ) (before now : World) : Type 0 where
  pub files : now.files ≡ before.files
  pub console : Complained line before.console now.console
