-- The files and the console, as contracts see them.
use Rattle.std.specs.Prelude.{◌≡◌, ◌⊎◌, ℕ, ◌+◌, ◌-◌, ◌^◌, ◌<◌, ◌≤◌, min, max, Bool, IsTrue, nat_lt, List, [], ◌∷◌, ◌++◌, length, take, Option, Result, Ok, Err, IfOk, OnOk, OnErr, IfSome, unwrap_or, ◌≢◌}
use Rattle.std.specs.Option.{IsSomeAnd, option_map}
use Rattle.std.specs.Ordering.{nat_cmp}
use Rattle.std.specs.Cmp.Lexicographic.{slice_cmp}
use Rattle.std.specs.FinMap as map
use Rattle.plc_outside.specs.declared.fault.FileFault.{FileFault}
use Rattle.plc_outside.specs.declared.fault.FileFault.TheVariants.{Failed, OutOfMemory}
use Rattle.plc_outside.specs.declared.fault.ConsoleFault.{ConsoleFault}

-- the greatest count
abbrev pub top : ℕ
top = 2 ^ 64 - 1

-- a count rose: it is greater, or stands at its end
abbrev pub Rose : ℕ → ℕ → Type 0
Rose before now = min (before + 1) top ≤ now

-- a count that stands still at its end
abbrev pub counted : ℕ → Option ℕ → Option ℕ
counted more count = option_map (λ n. max n (min (n + more) top)) count

-- bytes by names
abbrev pub Map : Type 0
Map = map.FinMap (slice_cmp nat_cmp) (List ℕ)

pub record FilesSeen : Type 0 where
  pub fetch_faults : ℕ
  pub put_faults : ℕ
  -- the four that may be told
  pub files : Option Map
  pub asked : Option (List (List ℕ))
  pub puts : Option ℕ
  pub handed : Option ℕ

pub record ConsoleSeen : Type 0 where
  pub say_faults : ℕ
  pub complain_faults : ℕ
  -- the three that may be told
  pub said : Option (List ℕ)
  pub complained : Option (List ℕ)
  pub handed : Option ℕ

-- the first bytes of a list
abbrev pub IsStartOf : List ℕ → List ℕ → Type 0
IsStartOf start xs = (n : ℕ) × (start ≡ take n xs)

abbrev pub also : {A : Type 0} → List A → Option (List A) → Option (List A)
also more xs = option_map (λ held. held ++ more) xs

-- a fetch that found no memory asked for nothing
abbrev pub asked_after : Result Bool FileFault → List ℕ → Option (List (List ℕ)) → Option (List (List ℕ))
asked_after (Ok more) name asked = also (name ∷ []) asked
asked_after (Err Failed) name asked = also (name ∷ []) asked
asked_after (Err OutOfMemory) name asked = asked

pub record MeansFetch (name : List ℕ) (most : ℕ) (result : Result Bool FileFault) (held holds : List ℕ) (before now : FilesSeen) : Type 0 where
  pub later : before.fetch_faults ≤ now.fetch_faults
  pub failed : result ≡ Err Failed → Rose before.fetch_faults now.fetch_faults
  pub no_memory : result ≡ Err OutOfMemory → now.fetch_faults ≡ before.fetch_faults
  pub put_faults : now.put_faults ≡ before.put_faults
  pub files : now.files ≡ before.files
  pub puts : now.puts ≡ before.puts
  pub handed : now.handed ≡ before.handed
  pub asked : now.asked ≡ asked_after result name before.asked
  -- bytes are added at the end, and true comes only where exactly so many were wanted
  pub given : (p : List ℕ) × (holds ≡ held ++ p) × (length p ≤ most) × IfOk result (λ more. IsTrue more → (length p ≡ most) × (most < top))
  -- of files that are told, the right ones
  pub whole : IfOk result (λ more. IfSome before.files (λ files. IsSomeAnd (map.get files name)
      (λ file. (holds ≡ held ++ take most file) × (more ≡ nat_lt most (length file)))))
  pub part : OnErr result (IfSome before.files (λ files.
      (p : List ℕ) × (holds ≡ held ++ p) × IsStartOf p (unwrap_or (map.get files name) [])))

-- the file holds the first of these bytes, or what it held
abbrev pub IsPartly : List ℕ → List ℕ → Option Map → Option Map → Type 0
IsPartly name bytes before now = (now ≡ before) ⊎ ((n : ℕ) × (now ≡ option_map (λ files. map.insert files name (take n bytes)) before))

pub record MeansPut {T : Type 0} (name bytes : List ℕ) (result : Result T FileFault) (before now : FilesSeen) : Type 0 where
  pub later : before.put_faults ≤ now.put_faults
  pub failed : OnErr result (Rose before.put_faults now.put_faults)
  pub no_memory : result ≢ Err OutOfMemory
  pub fetch_faults : now.fetch_faults ≡ before.fetch_faults
  pub asked : now.asked ≡ before.asked
  pub puts : now.puts ≡ counted 1 before.puts
  pub handed : now.handed ≡ counted (length name + length bytes + 1) before.handed
  pub whole : OnOk result (now.files ≡ option_map (λ files. map.insert files name bytes) before.files)
  pub part : OnErr result (IsPartly name bytes before.files now.files)

pub record MeansSay {T : Type 0} (bytes : List ℕ) (result : Result T ConsoleFault) (before now : ConsoleSeen) : Type 0 where
  pub later : before.say_faults ≤ now.say_faults
  pub failed : OnErr result (Rose before.say_faults now.say_faults)
  pub complain_faults : now.complain_faults ≡ before.complain_faults
  pub complained : now.complained ≡ before.complained
  pub handed : now.handed ≡ counted (length bytes + 1) before.handed
  pub whole : OnOk result (now.said ≡ also bytes before.said)
  pub part : OnErr result ((n : ℕ) × (now.said ≡ also (take n bytes) before.said))

pub record MeansComplain {T : Type 0} (bytes : List ℕ) (result : Result T ConsoleFault) (before now : ConsoleSeen) : Type 0 where
  pub later : before.complain_faults ≤ now.complain_faults
  pub failed : OnErr result (Rose before.complain_faults now.complain_faults)
  pub say_faults : now.say_faults ≡ before.say_faults
  pub said : now.said ≡ before.said
  pub handed : now.handed ≡ before.handed
  pub whole : OnOk result (now.complained ≡ also bytes before.complained)
  pub part : OnErr result ((n : ℕ) × (now.complained ≡ also (take n bytes) before.complained))
