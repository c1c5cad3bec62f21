-- Lists by a number, and lists by a name.
use Rattle.std.specs.Prelude.{◌≡◌, ℕ, nat_eq, Bool, true, false, cond, ◌<◌, List, [], ◌∷◌, ◌++◌, get_or, slice_get, ◌-◌, length, if◌then◌else◌}
use Rattle.std.specs.List.{list_any, position_or_len}
use Rattle.std.specs.Option.{option_map_or}
use Rattle.std.specs.Str.{bytes_eq}
use Rattle.plc_names.specs.declared.types.TypeId.{TypeId}
use Rattle.plc_names.specs.declared.types.TypeId.TheVariants as type_id

-- ---- by a number

-- none beyond the last of them
abbrev pub list_at : List (List ℕ) → (at : ℕ) → List ℕ
list_at lists at = get_or lists at []

-- one more number in one of the lists
pub record Adds (at number : ℕ) (old new : List (List ℕ)) : Type 0 where
  pub count : length new ≡ length old
  pub lists : (k : ℕ) → list_at new k ≡ if nat_eq at k then list_at old k ++ number ∷ [] else list_at old k

-- ---- by a name

-- what the list beside the name has; nothing for a name that isn't there
abbrev pub owned : (names : List (List ℕ)) → List (List TypeId) → (name : List ℕ) → List TypeId
owned [] lists name = []
owned (n ∷ names) [] name = []
owned (n ∷ names) (l ∷ lists) name = cond (bytes_eq name n) l (owned names lists name)

-- whether the last of a list is this enumeration
abbrev pub is_enum : (number : ℕ) → TypeId → Bool
is_enum number (type_id.Enum k) = nat_eq k number
is_enum number (type_id.Elem e) = false
is_enum number (type_id.Sub k) = false
is_enum number (type_id.Array k) = false
is_enum number (type_id.Struct k) = false
is_enum number (type_id.Block k) = false

abbrev pub is_last : List TypeId → (number : ℕ) → Bool
is_last list number = option_map_or (is_enum number) (slice_get list (length list - 1)) false

-- with this enumeration at the end, once
abbrev pub noted : List TypeId → (number : ℕ) → List TypeId
noted list number = if is_last list number then list else list ++ type_id.Enum number ∷ []

-- the place of a name that is put in where it isn't there yet
pub record IsPlace (name : List ℕ) (place : ℕ) (names : List (List ℕ)) (lists : List (List TypeId)) (names' : List (List ℕ)) (lists' : List (List TypeId)) : Type 0 where
  pub even : length names' ≡ length lists'
  pub there : list_any (bytes_eq name) names' ≡ true
  pub first : place ≡ position_or_len (bytes_eq name) names'
  pub within : place < length lists'
  pub same : (m : List ℕ) → owned names' lists' m ≡ owned names lists m

-- an enumeration is noted at each of some names
pub record Notes (marked : List ℕ → Bool) (number : ℕ) (names : List (List ℕ)) (lists : List (List TypeId)) (names' : List (List ℕ)) (lists' : List (List TypeId)) : Type 0 where
  pub even : length names' ≡ length lists'
  pub owners : (m : List ℕ) → owned names' lists' m ≡ if marked m then noted (owned names lists m) number else owned names lists m
