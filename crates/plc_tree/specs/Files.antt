-- The names of the files that a compile writes, in order.
use Rattle.std.specs.Prelude.{List, [], ◌∷◌, ◌++◌, ℕ, map, codes}
use Rattle.std.specs.List.{flat_map}
use Rattle.plc_tree.specs.declared.typed.TUnit.{TUnit}
use Rattle.plc_tree.specs.declared.typed.TConfig.{TConfig}

abbrev pub header_name : List ℕ → List ℕ
header_name name = name ++ codes ".h"

abbrev pub code_name : List ℕ → List ℕ
code_name name = name ++ codes ".c"

abbrev pub header_names : TUnit → List (List ℕ)
header_names u = map (λ c. header_name c.name) u.configs

abbrev pub config_code_names : TConfig → List (List ℕ)
config_code_names c = map (λ r. code_name r.name) c.resources ++ (code_name c.name ∷ [])

-- without a configuration its files and those of its resources aren't there
abbrev pub file_names : TUnit → List (List ℕ)
file_names u = codes "POUS.h" ∷ (header_names u ++ (codes "POUS.c" ∷ (flat_map config_code_names u.configs ++ (codes "plc_debugger.c" ∷ []))))
