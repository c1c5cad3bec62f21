-- Names with the number that each was entered with first.
use Rattle.std.specs.Prelude.{◌≡◌, ℕ, nat_eq, get_or, List, [], ◌∷◌, ◌++◌, Option, is_some, Vec, if◌then◌else◌}
use Rattle.std.specs.Map.{lookup}
use Rattle.std.specs.Str.{bytes_eq}
use Rattle.std.specs.Global.{Global}

-- what the maps hold, as plain data
abbrev pub bytes_of : Vec ℕ Global → List ℕ
bytes_of v = v.items

abbrev pub plain : Vec ℕ Global × ℕ → List ℕ × ℕ
plain p = (p.0.items, p.1)

-- the number of a name
abbrev pub first_of : List (List ℕ × ℕ) → (name : List ℕ) → Option ℕ
first_of names name = lookup (bytes_eq name) names

-- with one more name; one that is there keeps its number
abbrev pub entered : List (List ℕ × ℕ) → (name : List ℕ) → (number : ℕ) → List (List ℕ × ℕ)
entered names name number = if is_some (first_of names name) then names else names ++ (name, number) ∷ []

-- ---- such names for each scope

-- none beyond the scopes that were met
abbrev pub space_at : List (List (List ℕ × ℕ)) → (scope : ℕ) → List (List ℕ × ℕ)
space_at spaces scope = get_or spaces scope []

-- one more name of a scope
abbrev pub Enters : (scope : ℕ) → (name : List ℕ) → (number : ℕ) → List (List (List ℕ × ℕ)) → List (List (List ℕ × ℕ)) → Type 0
Enters scope name number old new = (s : ℕ) → space_at new s ≡ if nat_eq scope s then entered (space_at old s) name number else space_at old s
