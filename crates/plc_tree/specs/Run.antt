-- Scans and runs of a source.
use Rattle.std.specs.Prelude.{◌≡◌, ℕ, ◌+◌, ◌%◌, ◌^◌, List, [], ◌∷◌, map, ℤ, Option, Some, None}
use Rattle.plc_base.specs.Trace.{Event, Input, Force, Release, Scan, ColdStart, WarmStart, Entry, Shows, PastAt, IsMoment}
use Rattle.plc_base.specs.Addresses.{Address, address_in}
use Rattle.plc_base.specs.Numbers.{Fits}
use Rattle.plc_tree.specs.declared.typed.TUnit.{TUnit}
use Rattle.plc_tree.specs.declared.typed.TPou.{TPou}
use Rattle.plc_tree.specs.declared.typed.TInst.{TInst}
use Rattle.plc_tree.specs.Outcome.{Out, Done, Past, then_do}
use Rattle.plc_tree.specs.Store.{Path, Store, put, see, hold, let_go}
use Rattle.plc_tree.specs.Initial.{initial, warm}
use Rattle.plc_tree.specs.Execution.{Env, exec_body}
use Rattle.plc_tree.specs.Rows.{Row, rows, row_at, pou_in}
use Rattle.plc_tree.specs.Schedule.{runs}

abbrev pub run_pou : Env → Option TPou → Store → ℕ → Out Store
run_pou env None s n = Done s n
run_pou env (Some p) s n = exec_body env p.body s n

-- one program instance
abbrev pub run_inst : TUnit → ℤ → TInst → Store → ℕ → Out Store
run_inst u m i s n = run_pou (record { unit = u; inst = i.id ∷ []; moment = m }) (pou_in u.pous i.program) s n

-- one after the other, with one fuel
abbrev pub run_insts : TUnit → ℤ → List TInst → Store → ℕ → Out Store
run_insts u m [] s n = Done s n
run_insts u m (i ∷ is) s n = then_do (run_inst u m i s n) (λ t r. run_insts u m is t r)

-- one scan at a tick and a moment
abbrev pub scan : TUnit → ℕ → ℤ → Store → ℕ → Out Store
scan u tick m s n = run_insts u m (runs u tick) s n

-- the tick behind so many scans since the last start
abbrev pub tick_of : ℕ → ℕ
tick_of k = k % 2 ^ 64

-- the output cells: there are no located variables yet
abbrev pub outputs : TUnit → Store → List ℤ
outputs u s = []

abbrev pub shown : TUnit → ℕ → ℤ → Store → Entry
shown u k m s = Shows k m (outputs u s) (map (λ r. see u s r.path) (rows u))

-- after scan number k the run goes on, or it ends past the bound
abbrev pub after_scan : TUnit → ℕ → ℤ → (Store → List Entry) → Out Store → List Entry
after_scan u k m go (Done s n) = shown u k m s ∷ go s
after_scan u k m go Past = PastAt k ∷ []

-- ---- events

-- the input cell that an address names: there are no located variables yet
abbrev pub input_of : TUnit → Option Address → Option Path
input_of u a = None

abbrev pub with_input : Store → Option Path → ℤ → Store
with_input s None z = s
with_input s (Some p) z = record { cell = put s.cell p z; force = s.force }

abbrev pub with_force : Store → Option Row → ℤ → Store
with_force s None z = s
with_force s (Some r) z = hold s r.path z

abbrev pub with_release : TUnit → Store → Option Row → Store
with_release u s None = s
with_release u s (Some r) = let_go u s r.path

-- from a store on, the next scan being number k of the run, behind so many scans since the last start
abbrev pub trace_from : TUnit → ℕ → List Event → Store → (k since : ℕ) → List Entry
trace_from u n [] s k since = []
trace_from u n (Input a z ∷ es) s k since = trace_from u n es (with_input s (input_of u (address_in a)) z) k since
trace_from u n (Force i z ∷ es) s k since = trace_from u n es (with_force s (row_at (rows u) i) z) k since
trace_from u n (Release i ∷ es) s k since = trace_from u n es (with_release u s (row_at (rows u) i)) k since
trace_from u n (Scan m ∷ es) s k since = after_scan u k m (λ t. trace_from u n es t (k + 1) (since + 1)) (scan u (tick_of since) m s n)
trace_from u n (ColdStart ∷ es) s k since = trace_from u n es (initial u) k 0
trace_from u n (WarmStart ∷ es) s k since = trace_from u n es (warm u s) k 0

-- a whole run with bound n, from the first start on: one entry a scan
abbrev pub trace_src : TUnit → ℕ → List Event → List Entry
trace_src u n es = trace_from u n es (initial u) 1 0

-- ---- what may happen to a running unit: an address names an input cell, a number a listed row, and a force is of its type

pub record IsInput (u : TUnit) (address : List ℕ) : Type 0 where
  pub cell : Path
  pub is : input_of u (address_in address) ≡ Some cell

pub record IsListed (u : TUnit) (i : ℕ) : Type 0 where
  pub row : Row
  pub is : row_at (rows u) i ≡ Some row

abbrev pub Fair : TUnit → List Event → Type 0
Fair u [] = Unit {0}
Fair u (Input a z ∷ es) = IsInput u a × Fair u es
Fair u (Force i z ∷ es) = ((r : IsListed u i) × Fits r.row.elem z) × Fair u es
Fair u (Release i ∷ es) = IsListed u i × Fair u es
Fair u (Scan m ∷ es) = IsMoment m × Fair u es
Fair u (ColdStart ∷ es) = Fair u es
Fair u (WarmStart ∷ es) = Fair u es
