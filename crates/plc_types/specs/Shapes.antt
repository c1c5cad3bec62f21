-- What each type that is made is made of, by its number.
use Rattle.std.specs.Prelude.{ℕ, List, map, ◌++◌, Option}
use Rattle.std.specs.List.{enumerate_from}
use Rattle.std.specs.Option.{option_map}
use Rattle.plc_names.specs.declared.types.Field.{Field}
use Rattle.plc_names.specs.declared.types.Shape.{Shape}
use Rattle.plc_names.specs.Types.{World, shape_numbered}

abbrev pub shapes : World → List (Option Shape)
shapes w = map (shape_numbered w) (enumerate_from 0 w.made)

-- fields in front of others, where there are others
abbrev pub behind_fields : List Field → Option (List Field) → Option (List Field)
behind_fields done rest = option_map (λ fs. done ++ fs) rest
