-- The objects and the cells of a running unit, the tick and the moment, and what the forms do to them.
use Rattle.std.specs.Prelude.{ℕ, List, [], ◌∷◌, ℤ, pos, Bool, true, false, ◌&&◌, nat_eq, Option, Some, None, if◌then◌else◌}
use Rattle.std.specs.Str.{bytes_eq}
use Rattle.plc_base.specs.declared.which.Which.TheVariants.{Unset}
use Rattle.c_meaning.specs.Outcome.{COut, CDone, Undefined}

-- a step to a part of an object: by a member's name or by an index from 0
pub data Key : Type 0 where
  Named : List ℕ → Key
  Nth : ℕ → Key

-- an object's name, and the steps to one of its parts
abbrev pub Place : Type 0
Place = List Key

abbrev pub same_key : Key → Key → Bool
same_key (Named a) (Named b) = bytes_eq a b
same_key (Named a) (Nth j) = false
same_key (Nth i) (Named b) = false
same_key (Nth i) (Nth j) = nat_eq i j

abbrev pub same_place : Place → Place → Bool
same_place [] [] = true
same_place [] (q ∷ qs) = false
same_place (p ∷ ps) [] = false
same_place (p ∷ ps) (q ∷ qs) = same_key p q && same_place ps qs

pub record Objects : Type 0 where
  -- the value of each plain object and of each one with flags
  pub val : Place → ℤ
  -- whether an object with flags, or a cell with flags, is forced
  pub flag : Place → Bool
  -- the cell that a `_p` object was set to, by its name, and the value that it is forced to
  pub cell : Place → Option (List ℕ)
  pub fvalue : Place → ℤ
  -- the value of each cell, by its name
  pub cells : List ℕ → ℤ
  pub tick : ℕ
  -- `__CURRENT_TIME`
  pub moment : ℤ

-- a function changed at one place
abbrev pub put_at : {A : Type 0} → (Place → A) → Place → A → Place → A
put_at f p x q = if same_place q p then x else f q

-- objects and cells start as 0, and `_p` objects without a cell
abbrev pub no_objects : Objects
no_objects = record { val = λ p. pos 0; flag = λ p. false; cell = λ p. None; fvalue = λ p. pos 0; cells = λ c. pos 0; tick = 0; moment = pos 0 }

-- a cell gets a value
abbrev pub set_cell : Objects → List ℕ → ℤ → Objects
set_cell o c z = record o { cells = λ d. if bytes_eq d c then z else o.cells d }

-- ---- forms

-- `=`: the value of a plain object is set
abbrev pub set_plain : Objects → Place → ℤ → Objects
set_plain o p z = record o { val = put_at o.val p z }

-- `__INIT_VAR`: the value is set and the flags are cleared
abbrev pub init_var : Objects → Place → ℤ → Objects
init_var o p z = record o { val = put_at o.val p z; flag = put_at o.flag p false }

-- `__SET_VAR`: the value is set where the object is not forced
abbrev pub set_var : Objects → Place → ℤ → Objects
set_var o p z = if o.flag p then o else (record o { val = put_at o.val p z })

-- `__INIT_LOCATED`: the cell is set, the flags are cleared
abbrev pub init_located : Objects → Place → List ℕ → Objects
init_located o p c = record o { cell = put_at o.cell p (Some c); flag = put_at o.flag p false; fvalue = put_at o.fvalue p (pos 0) }

-- what needs the cell of a `_p` object is undefined where none was set, also where it is forced
abbrev pub with_cell : {A : Type 0} → Option (List ℕ) → (List ℕ → COut A) → COut A
with_cell None go = Undefined Unset
with_cell (Some c) go = go c

-- `__GET_LOCATED`: the forced value, else the cell's
abbrev pub seen_cell : Objects → Place → List ℕ → ℤ
seen_cell o p c = if o.flag p then o.fvalue p else o.cells c

abbrev pub get_located : Objects → Place → ℕ → COut ℤ
get_located o p n = with_cell (o.cell p) (λ c. CDone (seen_cell o p c) n)

-- `__SET_LOCATED`: the cell's value is set where the object is not forced
abbrev pub set_located : Objects → Place → ℤ → ℕ → COut Objects
set_located o p z n = with_cell (o.cell p) (λ c. CDone (if o.flag p then o else set_cell o c z) n)

-- `__PUBLISH`: the cell gets the forced value
abbrev pub publish : Objects → Place → ℕ → COut Objects
publish o p n = with_cell (o.cell p) (λ c. CDone (if o.flag p then set_cell o c (o.fvalue p) else o) n)

-- `__COPY`: each leaf is set as by `__SET_VAR`, in order
abbrev pub copied : Objects → (to from : List Place) → Objects
copied o [] qs = o
copied o (p ∷ ps) [] = o
copied o (p ∷ ps) (q ∷ qs) = copied (set_var o p (o.val q)) ps qs

-- ---- what a debugger does

-- a row of an object with flags is forced
abbrev pub force_var : Objects → Place → ℤ → Objects
force_var o p z = record o { val = put_at o.val p z; flag = put_at o.flag p true }

-- and one of a cell with flags
abbrev pub force_located : Objects → Place → ℤ → Objects
force_located o p z = record o { fvalue = put_at o.fvalue p z; flag = put_at o.flag p true }

abbrev pub released : Objects → Place → Objects
released o p = record o { flag = put_at o.flag p false }

-- what a row of a cell with flags shows: as `__GET_LOCATED`, or 0 where no cell is set
abbrev pub shown_cell : Objects → Place → Option (List ℕ) → ℤ
shown_cell o p None = pos 0
shown_cell o p (Some c) = seen_cell o p c
