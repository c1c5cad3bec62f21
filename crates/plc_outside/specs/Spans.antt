-- Files as spans in one run of bytes.
use Rattle.std.specs.Prelude.{◌≢◌, ℕ, ◌+◌, ◌*◌, ◌≤◌, ◌<◌, List, [], ◌∷◌, Some}
use Rattle.std.specs.List.{slice_range}
use Rattle.std.specs.FinMap as map
use Rattle.plc_outside.specs.Outside.{Map}
use Rattle.plc_outside.specs.declared.span.Span.{Span}

-- the files of these spans, the newest in front
abbrev pub files_of : List ℕ → List Span → Map
files_of bytes [] = map.empty
files_of bytes (s ∷ spans) = map.insert (files_of bytes spans) (slice_range bytes s.start s.middle) (slice_range bytes s.middle s.end)

-- a span of a run of n bytes
pub record IsWithin (n : ℕ) (s : Span) : Type 0 where
  pub front : s.start ≤ s.middle
  pub back : s.middle ≤ s.end
  pub last : s.end ≤ n

-- two slots for each byte that is left, and one more where the file of the empty name isn't empty already
pub record HasSlots (files : Map) (used left slots : ℕ) : Type 0 where
  pub bytes : used + 2 * left ≤ slots
  pub blank : map.get files [] ≢ Some [] → used + 2 * left < slots
