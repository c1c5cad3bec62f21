-- What each command does with the outside while all goes well.
use Rattle.std.specs.Prelude.{◌≡◌, ◌⊎◌, ℕ, List, [], ◌∷◌, ◌++◌, map, take, Option, Some, None, IfSome}
use Rattle.std.specs.List.{flat_map}
use Rattle.std.specs.Option.{option_map}
use Rattle.std.specs.FinMap as files
use Rattle.plc_outside.specs.Outside.{Map}
use Rattle.plc_outside.specs.Calls.{Call, Fetches, Puts, Says, World}
use Rattle.plc_base.specs.declared.refusal.Refusal.{Refusal}
use Rattle.c_tree.specs.declared.text.CText.{CText}
use Rattle.plc_top.specs.declared.status.Status.{Status}
use Rattle.plc_top.specs.declared.status.Status.TheVariants as status
use Rattle.plc_top.specs.Decision.{IsCompiled, IsRefused}
use Rattle.plc_top.specs.Lines.{usage_line, refusal_line}
use Rattle.plc_top.specs.Words.{form}
use Rattle.plc_top.specs.Run.{Plan, plan, after_calls, Ends, GoesOn, Runs}

-- one byte more than a source may have
abbrev pub most : ℕ
most = 4194305

-- a put for each text
abbrev pub puts_of : List CText → List Call
puts_of texts = map (λ text. Puts text.name text.bytes) texts

-- the names, one a line
abbrev pub lines_of : List CText → List ℕ
lines_of texts = flat_map (λ text. text.name ++ 10 ∷ []) texts

-- the source in the files
abbrev pub source_of : Map → List ℕ → Option (List ℕ)
source_of m name = option_map (take most) (files.get m name)

-- the source is refused, and the line tells why
pub record IsRefusedPlan (name source : List ℕ) (p : Plan) : Type 0 where
  pub why : Refusal
  pub refused : IsRefused source why
  pub is : p ≡ plan [] (Ends status.Refused (refusal_line name why))

-- the texts are put, and their names are said
pub record IsWritingPlan (source : List ℕ) (p : Plan) : Type 0 where
  pub texts : List CText
  pub compiled : IsCompiled source texts
  pub is : p ≡ plan (puts_of texts ++ Says (lines_of texts) ∷ []) (Ends status.Done [])

-- what follows once the source was fetched; early, where the texts are not known yet, nothing
abbrev pub IsFetchedPlan : List ℕ → List ℕ → Plan → Type 0
IsFetchedPlan name source p = (p ≡ plan [] GoesOn) ⊎ (IsRefusedPlan name source p ⊎ IsWritingPlan source p)

-- the files, where they are told, have this source
abbrev pub HasSource : Option Map → List ℕ → List ℕ → Type 0
HasSource known name source = IfSome known (λ files. source_of files name ≡ Some source)

-- the source was fetched
pub record IsSourcePlan (name : List ℕ) (known : Option Map) (p : Plan) : Type 0 where
  pub source : List ℕ
  pub found : HasSource known name source
  pub next : Plan
  pub planned : IsFetchedPlan name source next
  pub is : p ≡ after_calls (Fetches name ∷ []) next

-- the plan of a compile; early, where the source is not known yet, the fetch alone
abbrev pub IsCompilePlan : List ℕ → Option Map → Plan → Type 0
IsCompilePlan name known p = (p ≡ plan (Fetches name ∷ []) GoesOn) ⊎ IsSourcePlan name known p

abbrev pub IsPlanOfForm : Option (List ℕ) → Option Map → Plan → Type 0
IsPlanOfForm None known p = p ≡ plan [] (Ends status.Usage usage_line)
IsPlanOfForm (Some name) known p = IsCompilePlan name known p

-- the plan of the words of a command line
abbrev pub IsPlan : List (List ℕ) → Option Map → Plan → Type 0
IsPlan words known p = IsPlanOfForm (form words) known p

-- the calls of a plan were made, or some of them
abbrev pub Performs : (Plan → Type 0) → Status → World → World → Type 0
Performs IsItsPlan status before now = (p : Plan) × IsItsPlan p × Runs p status before now
