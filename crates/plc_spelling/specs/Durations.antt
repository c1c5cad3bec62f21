-- Durations (IEC 61131-3, 2.2.3.1), behind `T#` or `TIME#`.
use Rattle.std.specs.Prelude.{ℕ, ◌+◌, ◌-◌, ◌*◌, ◌/◌, ◌^◌, Bool, true, false, ◌&&◌, ◌||◌, ◌==◌, not, nat_lt, nat_le, List, [], ◌∷◌, length, take, drop, get_or, pos, neg_ℤ, codes, Option, Some, None, is_some, if◌then◌else◌}
use Rattle.std.specs.Char.{is_ascii_digit, is_ascii_alphabetic}
use Rattle.std.specs.Option.{option_map}
use Rattle.std.specs.Str.{str_eq_ignore_ascii_case}
use Rattle.plc_base.specs.declared.kind.Kind.{Kind}
use Rattle.plc_base.specs.declared.kind.Kind.TheVariants.{Span, Bad}
use Rattle.plc_base.specs.declared.refusal.Rule.TheVariants.{L3, L4}
use Rattle.plc_spelling.specs.Integers.{value}
use Rattle.plc_spelling.specs.Text.{is_nil, begins_with, run_of, behind_run}

-- a unit of time: its letters, how many nanoseconds it has, and how many of it may stand behind a part of a greater unit
pub record TimeUnit : Type 0 where
  pub letters : List ℕ
  pub nanoseconds : ℕ
  pub below : ℕ

-- the units in falling order; days stand behind no greater unit
abbrev pub units : List TimeUnit
units =
    record { letters = codes "D"; nanoseconds = 86400000000000; below = 0 }
    ∷ record { letters = codes "H"; nanoseconds = 3600000000000; below = 24 }
    ∷ record { letters = codes "M"; nanoseconds = 60000000000; below = 60 }
    ∷ record { letters = codes "S"; nanoseconds = 1000000000; below = 60 }
    ∷ record { letters = codes "MS"; nanoseconds = 1000000; below = 1000 } ∷ []

-- ---- a part: digits, a point and digits or none, and the letters of a unit

abbrev pub whole : List ℕ → List ℕ
whole bs = run_of is_ascii_digit bs

-- there is a point
abbrev pub has_point : List ℕ → Bool
has_point bs = begins_with 46 (behind_run is_ascii_digit bs)

-- the digits behind the point
abbrev pub fraction : List ℕ → List ℕ
fraction bs = if has_point bs then run_of is_ascii_digit (drop 1 (behind_run is_ascii_digit bs)) else []

-- what stands behind the digits
abbrev pub behind_number : List ℕ → List ℕ
behind_number bs = if has_point bs then behind_run is_ascii_digit (drop 1 (behind_run is_ascii_digit bs)) else behind_run is_ascii_digit bs

-- there are digits, and also behind a point
abbrev pub has_number : List ℕ → Bool
has_number bs = not (is_nil (whole bs)) && not (has_point bs && is_nil (fraction bs))

-- The bytes begin with a part of this unit. Behind a part of a greater unit its number is limited.
abbrev pub begins_part : TimeUnit → Bool → List ℕ → Bool
begins_part u first bs =
    has_number bs
    && str_eq_ignore_ascii_case u.letters (run_of is_ascii_alphabetic (behind_number bs))
    && (first || nat_lt (value 10 (whole bs)) u.below)

-- what stands behind the part
abbrev pub behind_part : List ℕ → List ℕ
behind_part bs = behind_run is_ascii_alphabetic (behind_number bs)

-- the nanoseconds of the part, truncated
abbrev pub nanoseconds : TimeUnit → List ℕ → ℕ
nanoseconds u bs = value 10 (whole bs) * u.nanoseconds + value 10 (fraction bs) * u.nanoseconds / 10 ^ length (fraction bs)

-- ---- parts one after the other

-- past the underscore that may stand between two parts
abbrev pub past_bar : List ℕ → List ℕ
past_bar [] = []
past_bar (b ∷ bs) = if b == 95 then bs else b ∷ bs

-- The nanoseconds of parts of some of these units in falling order, where the bytes are such parts and nothing else. Only the last part has a point.
abbrev pub parts : List TimeUnit → Bool → List ℕ → Option ℕ
parts [] first bs = None
parts (u ∷ us) first bs =
    if begins_part u first bs
    then (if is_nil (behind_part bs) then Some (nanoseconds u bs)
    else (if has_point bs then None
    else option_map (λ more. nanoseconds u bs + more) (parts us false (past_bar (behind_part bs)))))
    else parts us first bs

-- a sign, and parts
abbrev pub unsigned : List ℕ → List ℕ
unsigned bs = if begins_with 45 bs then drop 1 bs else bs

abbrev pub time : List ℕ → Option ℕ
time bs = parts units true (unsigned bs)

-- ---- what is of no form

-- the first n bytes are a duration
abbrev pub is_time_to : ℕ → List ℕ → Bool
is_time_to n bs = is_some (time (take n bs))

-- Behind a duration, or behind it and an underscore, stands one more digit. So the next part isn't one that may follow: its unit isn't lower or is
-- missing, its number passes its limit, or the part before it has a point.
abbrev pub goes_on : List ℕ → Bool
goes_on bs =
    is_ascii_digit (get_or bs (length bs - 1) 0)
    && (is_time_to (length bs - 1) bs || ((get_or bs (length bs - 2) 0 == 95) && is_time_to (length bs - 2) bs))

-- no part stands there
abbrev pub lacks_parts : List ℕ → Bool
lacks_parts bs = is_nil (unsigned bs)

-- what may stand behind `T#`
abbrev pub is_duration : List ℕ → Bool
is_duration bs = is_some (time bs) || goes_on bs || lacks_parts bs

-- a number of nanoseconds with its sign
abbrev pub span_kind : Bool → ℕ → Kind
span_kind true n = if nat_le n (2 ^ 63) then Span (neg_ℤ (pos n)) else Bad L4
span_kind false n = if nat_lt n (2 ^ 63) then Span (pos n) else Bad L4

abbrev pub duration_kind : List ℕ → Kind
duration_kind bs = elim (time bs) [ None ↦ Bad L3 | Some n ↦ span_kind (begins_with 45 bs) n ]
