-- What the worked examples unfold on names.
use Rattle.std.specs.Prelude.{⊤}
use Rattle.plc_standard.specs.Files.{is_file}
use Rattle.plc_standard.specs.Standard.{is_function, is_block}
use Rattle.plc_typing.specs.Standard.{is_standard}

-- what an answer unfolds to compute whether a name is a standard one
unfoldable pub standard_names : ⊤
unfolding is_standard is_function is_block is_file
standard_names = tt
