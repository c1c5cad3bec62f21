-- What is told of declarations, by their numbers.
use Rattle.std.specs.Prelude.{ℕ, Bool, false, ◌&&◌, ◌||◌, List}
use Rattle.std.specs.Option.{option_map_or}
use Rattle.plc_names.specs.declared.declarations.Declaration.{Declaration}
use Rattle.plc_names.specs.declared.names.Info.{Info}
use Rattle.plc_names.specs.Lookup.{is_external, global_in}
use Rattle.plc_names.specs.Types.{World, type_written}

-- a declaration whose section says CONSTANT can't be written, nor an external of a global whose section does
abbrev pub is_constant : List Declaration → Declaration → Bool
is_constant ds d = d.constant || (is_external d.kind && option_map_or (λ (g : Declaration). g.constant) (global_in ds d.name) false)

abbrev pub info_of : World → Declaration → Info
info_of w d = record { kind = d.kind; ty = type_written w d.ty; constant = is_constant w.declared d; scope = d.scope; inner = d.inner; place = d.at }
