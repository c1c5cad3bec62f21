-- What is known of names, by the tables that are kept.
use Rattle.std.specs.Prelude.{ℕ, List, get_or, Option, Some, None}
use Rattle.std.specs.Option.{option_or, option_map}
use Rattle.plc_names.specs.declared.declarations.Declaration.{Declaration}
use Rattle.plc_names.specs.declared.types.Standing.{Standing}
use Rattle.plc_names.specs.declared.types.Standing.TheVariants as standing
use Rattle.plc_names.specs.Lookup.{number_in}
use Rattle.plc_names.specs.Types.{World, of_elem, elem_named}
use Rattle.plc_scopes.specs.Scopes.{Told}
use Rattle.plc_standard.specs.Standard.{block_number}

-- the tables of scopes, and for each declaration what it stands for as a type
pub record KnownNames : Type 0 where
  pub scopes : Told
  pub standings : List (Option Standing)

abbrev pub standing_at : List (Option Standing) → ℕ → Option Standing
standing_at ss number = get_or ss number None

abbrev pub standing_numbered : List (Option Standing) → List ℕ → Option ℕ → Option Standing
standing_numbered ss name None = option_map standing.Block (block_number name)
standing_numbered ss name (Some number) = standing_at ss number

abbrev pub standing_named : List Declaration → List (Option Standing) → List ℕ → Option Standing
standing_named ds ss name = option_or (option_map of_elem (elem_named name)) (standing_numbered ss name (number_in ds 0 name))

-- the world as the rules see it
abbrev pub world_of : KnownNames → World
world_of k = record { declared = k.scopes.declared; made = k.scopes.made; standing = standing_named k.scopes.declared k.standings; scopes = k.scopes.count }
