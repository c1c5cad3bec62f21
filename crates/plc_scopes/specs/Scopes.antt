-- The tables of scopes: what they are made of, and what they hold.
use Rattle.std.specs.Prelude.{◌≡◌, ℕ, nat_lt, ◌<◌, ◌≤◌, ◌^◌, Bool, false, List, length, Option, Some, None}
use Rattle.std.specs.List.{position_from}
use Rattle.std.specs.Borrow.{Bor}
use Rattle.plc_names.specs.declared.declarations.Declaration.{Declaration}
use Rattle.plc_names.specs.declared.declarations.Made.{Made}
use Rattle.plc_names.specs.declared.types.TypeId.{TypeId}
use Rattle.plc_names.specs.Lookup.{number_in, is_global_named, members_in, owners_in}
use Rattle.plc_scopes.specs.Firsts.{first_of, space_at}
use Rattle.plc_scopes.specs.Lists.{list_at, owned}

-- what is declared and made, and how many scopes there are
pub record Told : Type 0 where
  pub declared : List Declaration
  pub made : List Made
  pub count : ℕ

-- maps in which each search over the declarations finds what it would find
pub record AreTables (declared : List Declaration) (made : List Made) (count : ℕ) (spaces : List (List (List ℕ × ℕ))) (globals : List (List ℕ × ℕ)) (members : List (List ℕ))
    (names : List (List ℕ)) (owners : List (List TypeId)) : Type 0 where
  pub numbers : length declared < 2 ^ 32
  pub spaces_are : (scope : ℕ) (name : List ℕ) → first_of (space_at spaces scope) name ≡ number_in declared scope name
  pub globals_are : (name : List ℕ) → first_of globals name ≡ position_from (is_global_named name) 0 declared
  pub each_scope : length members ≡ count
  pub members_are : (scope : ℕ) → scope < count → list_at members scope ≡ members_in declared scope
  pub owners_are : (name : List ℕ) → owned names owners name ≡ owners_in made name

-- the numbers of a scope, where there is that scope
abbrev pub HasMembers : Told → (scope : ℕ) → Option (Bor (List ℕ)) → Type 0
HasMembers s scope None = s.count ≤ scope
HasMembers s scope (Some list) = (scope < s.count) × (list.now ≡ members_in s.declared scope)

-- a number that is found, below another one
abbrev pub before : Option ℕ → ℕ → Bool
before None number = false
before (Some k) number = nat_lt k number
