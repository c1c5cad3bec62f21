-- The store of a source: a number for each cell, and the forces.
use Rattle.std.specs.Prelude.{ℕ, List, ℤ, Option, Some, None, unwrap_or, is_some, if◌then◌else◌}
use Rattle.std.specs.Str.{bytes_eq}
use Rattle.plc_tree.specs.declared.typed.TUnit.{TUnit}

-- a variable by the numbers of the declarations that lead to it, an instance's first
abbrev pub Path : Type 0
Path = List ℕ

pub record Store : Type 0 where
  pub cell : Path → ℤ
  pub force : Path → Option ℤ

-- the cell that a variable has: its own
abbrev pub cell_of : TUnit → Path → Path
cell_of u p = p

-- a function changed at one path
abbrev pub put : {A : Type 0} → (Path → A) → Path → A → Path → A
put f p x q = if bytes_eq q p then x else f q

-- the force of a variable, else its cell
abbrev pub see : TUnit → Store → Path → ℤ
see u s p = unwrap_or (s.force p) (s.cell (cell_of u p))

-- a write to a forced variable is dropped
abbrev pub write : TUnit → Store → Path → ℤ → Store
write u s p z = if is_some (s.force p) then s else (record { cell = put s.cell (cell_of u p) z; force = s.force })

-- ---- what a debugger does

-- a variable is held at a number
abbrev pub hold : Store → Path → ℤ → Store
hold s p z = record { cell = s.cell; force = put s.force p (Some z) }

-- and let go: the number that it was seen with stays in its cell
abbrev pub let_go : TUnit → Store → Path → Store
let_go u s p = record { cell = put s.cell (cell_of u p) (see u s p); force = put s.force p None }
