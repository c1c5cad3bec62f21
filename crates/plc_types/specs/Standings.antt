-- What each declaration stands for as a type, found along an order.
use Rattle.std.specs.Prelude.{◌≡◌, ℕ, Bool, true, false, List, [], ◌∷◌, length, replicate, Option, Some, None, slice_set, slice_index_or, if◌then◌else◌}
use Rattle.std.specs.List.{slice_get}
use Rattle.std.specs.Option.{option_and_then}
use Rattle.circles.specs.Circles.{Answer}
use Rattle.circles.specs.Needs.{needs}
use Rattle.plc_names.specs.declared.declarations.Declaration.{Declaration}
use Rattle.plc_names.specs.declared.declarations.Written.{Written}
use Rattle.plc_names.specs.declared.declarations.Written.TheVariants as written
use Rattle.plc_names.specs.declared.names.NameKind.{NameKind}
use Rattle.plc_names.specs.declared.names.NameKind.TheVariants as kind
use Rattle.plc_names.specs.declared.types.Standing.{Standing}
use Rattle.plc_names.specs.Lookup.{number_in}
use Rattle.plc_names.specs.Types.{standing_kind}
use Rattle.plc_types.specs.Known.{standing_named}

-- what a declaration stands for, by what is found of those that it needs; one on a circle stands for nothing
abbrev pub stands_for : List Declaration → (circular : List Bool) → (found : List (Option Standing)) → ℕ → Option Standing
stands_for ds circular found number =
    if slice_index_or circular number false then None
    else option_and_then (λ (d : Declaration). standing_kind (standing_named ds found) d.kind d.ty) (slice_get ds number)

abbrev pub nothing : ℕ → List (Option Standing)
nothing count = replicate count None

-- these are found one after the other
abbrev pub found_along : List Declaration → (circular : List Bool) → (found : List (Option Standing)) → (numbers : List ℕ) → List (Option Standing)
found_along ds circular found [] = found
found_along ds circular found (k ∷ ks) = found_along ds circular (slice_set found k (stands_for ds circular found k)) ks

abbrev pub standings : List Declaration → Answer → List (Option Standing)
standings ds answer = found_along ds answer.circular (nothing (length ds)) answer.order

-- ---- in an order in which declarations stand behind what they need

-- the other name that the name of a type stands for, where it is written as one
abbrev pub asks_written : Written → Option (List ℕ)
asks_written written.Untyped = None
asks_written (written.Itself t) = None
asks_written (written.ByName name) = Some name

abbrev pub asks : NameKind → Written → Option (List ℕ)
asks kind.Named w = asks_written w
asks kind.Block w = asks_written w
asks k w = None

-- what a type is another name for it needs
pub record IsLinked (ds : List Declaration) (g : List (List ℕ)) : Type 0 where
  pub sized : length g ≡ length ds
  pub linked : (k j : ℕ) (d : Declaration) (name : List ℕ) → slice_get ds k ≡ Some d → asks d.kind d.ty ≡ Some name → number_in ds 0 name ≡ Some j → needs g k j ≡ true
