-- What a form in memory keeps beside what it tells, and how a call changes it.
use Rattle.std.specs.Prelude.{◌≡◌, ◌⊎◌, ℕ, ◌+◌, ◌-◌, ◌<◌, ◌≤◌, min, Bool, true, false, nat_eq, List, length, None, Result, Err, OnOk, OnErr, IfSome}
use Rattle.std.specs.List.{list_any}
use Rattle.std.specs.FinMap as map
use Rattle.plc_outside.specs.Outside.{FilesSeen, ConsoleSeen, top}
use Rattle.plc_outside.specs.declared.fault.FileFault.{FileFault}
use Rattle.plc_outside.specs.declared.fault.FileFault.TheVariants.{Failed}

-- the room that is left, how many calls there were, and the numbers of calls that fail
pub record Kept : Type 0 where
  pub left : ℕ
  pub calls : ℕ
  pub fail : List ℕ

-- one more, up to the greatest count
abbrev pub one_more : ℕ → ℕ
one_more count = min (count + 1) top

-- whether the next call is one that fails
abbrev pub is_listed : Kept → Bool
is_listed kept = list_any (λ number. nat_eq number (one_more kept.calls)) kept.fail

-- after a call
abbrev pub after_call : Kept → Kept
after_call kept = record kept { calls = one_more kept.calls }

-- after a call that took so much room
abbrev pub after_taking : ℕ → Kept → Kept
after_taking room kept = record { left = kept.left - room; calls = one_more kept.calls; fail = kept.fail }

-- a fetch takes no room, and fails where its number is listed or no such file stands
pub record KeepsFetch (name : List ℕ) (result : Result Bool FileFault) (held holds : List ℕ) (before now : FilesSeen) (kept keeps : Kept) : Type 0 where
  pub after : keeps ≡ after_call kept
  pub answered : OnOk result ((is_listed kept ≡ false) × (now.fetch_faults ≡ before.fetch_faults))
  pub cause : result ≡ Err Failed → (is_listed kept ≡ true) ⊎ IfSome before.files (λ files. map.get files name ≡ None)
  pub failed : result ≡ Err Failed → (holds ≡ held) × (now.fetch_faults ≡ one_more before.fetch_faults)

-- a put takes the room of its name and bytes, and fails where its number is listed or the room is passed
pub record KeepsPut {T : Type 0} (name bytes : List ℕ) (result : Result T FileFault) (before now : FilesSeen) (kept keeps : Kept) : Type 0 where
  pub fits : OnOk result ((is_listed kept ≡ false) × (length name + length bytes ≤ kept.left))
  pub cause : OnErr result ((is_listed kept ≡ true) ⊎ (kept.left < length name + length bytes))
  pub taken : OnOk result ((keeps ≡ after_taking (length name + length bytes) kept) × (now.put_faults ≡ before.put_faults))
  pub left : OnErr result ((keeps ≡ after_call kept) × (now.put_faults ≡ one_more before.put_faults) × (now.files ≡ before.files))

-- a write takes the room of its bytes, and fails where its number is listed or the room is passed
pub record KeepsWrite {T E : Type 0} (bytes : List ℕ) (result : Result T E) (kept keeps : Kept) : Type 0 where
  pub fits : OnOk result ((is_listed kept ≡ false) × (length bytes ≤ kept.left))
  pub cause : OnErr result ((is_listed kept ≡ true) ⊎ (kept.left < length bytes))
  pub taken : OnOk result (keeps ≡ after_taking (length bytes) kept)
  pub left : OnErr result (keeps ≡ after_call kept)

pub record KeepsSay {T E : Type 0} (bytes : List ℕ) (result : Result T E) (before now : ConsoleSeen) (kept keeps : Kept) : Type 0 where
  pub write : KeepsWrite bytes result kept keeps
  pub answered : OnOk result (now.say_faults ≡ before.say_faults)
  pub failed : OnErr result ((now.say_faults ≡ one_more before.say_faults) × (now.said ≡ before.said))

pub record KeepsComplain {T E : Type 0} (bytes : List ℕ) (result : Result T E) (before now : ConsoleSeen) (kept keeps : Kept) : Type 0 where
  pub write : KeepsWrite bytes result kept keeps
  pub answered : OnOk result (now.complain_faults ≡ before.complain_faults)
  pub failed : OnErr result ((now.complain_faults ≡ one_more before.complain_faults) × (now.complained ≡ before.complained))
