-- The store at the start (IEC 61131-3, 2.4.2): each listed variable has its initial value, and nothing is forced.
use Rattle.std.specs.Prelude.{Bool, false, List, [], ◌∷◌, ℤ, pos, None, if◌then◌else◌}
use Rattle.std.specs.Str.{bytes_eq}
use Rattle.plc_tree.specs.declared.typed.TUnit.{TUnit}
use Rattle.plc_tree.specs.Rows.{Row, rows}
use Rattle.plc_tree.specs.Store.{Path, Store, see}

-- the initial value of the variable with this path, 0 where there is none
abbrev pub init_in : List Row → Path → ℤ
init_in [] p = pos 0
init_in (r ∷ rs) p = if bytes_eq r.path p then r.init else init_in rs p

abbrev pub initial : TUnit → Store
initial u = record { cell = init_in (rows u); force = λ p. None }

-- ---- a warm start: likewise, but each kept variable has the number that was seen

abbrev pub is_kept : List Row → Path → Bool
is_kept [] p = false
is_kept (r ∷ rs) p = if bytes_eq r.path p then r.keep else is_kept rs p

abbrev pub warm : TUnit → Store → Store
warm u s = record { cell = λ p. if is_kept (rows u) p then see u s p else init_in (rows u) p; force = λ p. None }
