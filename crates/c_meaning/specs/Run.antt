-- The start, scans and runs of a unit.
use Rattle.std.specs.Prelude.{ℕ, zero, suc, ◌+◌, ◌%◌, ◌^◌, List, [], ◌∷◌, map, reverse, codes, ℤ, pos, nat_eq, Bool, Option, Some, None, if◌then◌else◌}
use Rattle.std.specs.List.{filter}
use Rattle.plc_base.specs.Addresses.{Address, address_in}
use Rattle.plc_base.specs.Numbers.{wrap}
use Rattle.plc_base.specs.Trace.{Event, Input, Force, Release, Scan, ColdStart, WarmStart, Entry, Shows, PastAt, UndefinedAt}
use Rattle.c_tree.specs.declared.tree.CUnit.{CUnit}
use Rattle.c_tree.specs.declared.tree.CPath.{CPath}
use Rattle.c_tree.specs.declared.tree.CSel.{CSel}
use Rattle.c_tree.specs.declared.tree.CSel as sel
use Rattle.c_tree.specs.declared.tree.CExpr.{CExpr}
use Rattle.c_tree.specs.declared.tree.CExpr as expr
use Rattle.c_tree.specs.declared.tree.CRow.{CRow}
use Rattle.c_tree.specs.declared.tree.CRow.TheVariants.{Var, Loc, Step}
use Rattle.c_meaning.specs.Outcome.{COut, CDone, CPast, Undefined, c_then}
use Rattle.c_meaning.specs.Values.{of_type, U64}
use Rattle.c_meaning.specs.Objects.{Key, Named, Nth, Place, Objects, no_objects, set_cell, force_var, force_located, released, shown_cell}
use Rattle.c_meaning.specs.Items.{Cell, DebugLine, all_items, functions_of, lines_of, cells_of, cell_at}
use Rattle.c_meaning.specs.Execution.{Passed, ByValue, Left, call_of}

-- a call from outside, of the function with this name
abbrev pub c_call : CUnit → List ℕ → List Passed → Objects → ℕ → COut Left
c_call c name xs o n = call_of (all_items c) (reverse (functions_of (all_items c))) name xs o n

-- the start, from these objects: the tick and the moment are 0 again, and no object is
abbrev pub c_init : CUnit → Objects → ℕ → COut Objects
c_init c o n = c_then (c_call c (codes "config_init__") [] (record o { tick = 0; moment = pos 0 }) n) (λ l r. CDone l.objects r)

-- a cold start: all objects and cells are as at load
abbrev pub c_cold : CUnit → ℕ → COut Objects
c_cold c n = c_init c no_objects n

abbrev pub at_moment : Objects → ℤ → Objects
at_moment o m = record o { moment = m }

abbrev pub ticked : Objects → Objects
ticked o = record o { tick = (o.tick + 1) % 2 ^ 64 }

-- one scan at a moment
abbrev pub c_scan : CUnit → ℤ → Objects → ℕ → COut Objects
c_scan c m o n =
    c_then (c_call c (codes "config_run__") (ByValue (of_type U64 (pos o.tick)) ∷ []) (at_moment o m) n) (λ l r. CDone (ticked l.objects) r)

-- ---- debug rows

-- an index of a debug row is a number
abbrev pub number_of : CExpr → ℕ
number_of (expr.Number value kind) = value
number_of e = 0

abbrev pub sel_key : CSel → Key
sel_key (sel.Field name) = Named name
sel_key (sel.Index e) = Nth (number_of e)

-- a path with no arrow, as debug rows have it
abbrev pub path_place : CPath → Place
path_place p = Named p.first ∷ map sel_key p.parts

-- what a row shows
abbrev pub shown_at : CRow → Objects → Place → ℤ
shown_at Var o p = o.val p
shown_at Loc o p = shown_cell o p (o.cell p)
shown_at Step o p = o.val p

abbrev pub line_value : Objects → DebugLine → ℤ
line_value o l = shown_at l.kind o (path_place l.path)

-- a force of a row
abbrev pub forced_at : CRow → Objects → Place → ℤ → Objects
forced_at Var o p z = force_var o p z
forced_at Loc o p z = force_located o p z
forced_at Step o p z = force_var o p z

abbrev pub line_forced : Objects → DebugLine → ℤ → Objects
line_forced o l z = forced_at l.kind o (path_place l.path) z

-- and its release, of any kind
abbrev pub line_released : Objects → DebugLine → Objects
line_released o l = released o (path_place l.path)

-- ---- cells

-- an input: the cell that the address names gets a number of its type, where there is one
abbrev pub c_input : CUnit → (dir size : ℕ) → (numbers : List ℕ) → ℤ → Objects → Objects
c_input c dir size numbers z o = given (cell_at (cells_of (all_items c)) dir size numbers)
  where
    given : Option Cell → Objects
    given None = o
    given (Some cell) = set_cell o cell.name (wrap cell.elem z)

-- from outside an address names an input cell, with the letter I; nothing is done where it names none
abbrev pub with_address : CUnit → Option Address → ℤ → Objects → Objects
with_address c None z o = o
with_address c (Some a) z o = if nat_eq a.dir 73 then c_input c a.dir a.size a.numbers z o else o

-- the letter Q
abbrev pub is_output : Cell → Bool
is_output cell = nat_eq cell.dir 81

-- the output cells in the order of their declarations
abbrev pub c_outputs : CUnit → Objects → List ℤ
c_outputs c o = map (λ (cell : Cell). o.cells cell.name) (filter is_output (cells_of (all_items c)))

-- ---- runs

abbrev pub c_shown : CUnit → ℕ → ℤ → Objects → Entry
c_shown c k m o = Shows k m (c_outputs c o) (map (line_value o) (lines_of (all_items c)))

abbrev pub after_c_scan : CUnit → ℕ → ℤ → (Objects → List Entry) → COut Objects → List Entry
after_c_scan c k m go (CDone o n) = c_shown c k m o ∷ go o
after_c_scan c k m go CPast = PastAt k ∷ []
after_c_scan c k m go (Undefined w) = UndefinedAt k w ∷ []

abbrev pub after_init : (Objects → List Entry) → COut Objects → List Entry
after_init go (CDone o n) = go o
after_init go CPast = PastAt 0 ∷ []
after_init go (Undefined w) = UndefinedAt 0 w ∷ []

-- ---- events

-- the row with a number, from 0
abbrev pub line_at : List DebugLine → ℕ → Option DebugLine
line_at [] k = None
line_at (l ∷ ls) zero = Some l
line_at (l ∷ ls) (suc k) = line_at ls k

abbrev pub with_force : Objects → Option DebugLine → ℤ → Objects
with_force o None z = o
with_force o (Some l) z = line_forced o l z

abbrev pub with_release : Objects → Option DebugLine → Objects
with_release o None = o
with_release o (Some l) = line_released o l

-- a row gets the value that it showed before, with its flag clear
abbrev pub with_kept : (before after : Objects) → Option DebugLine → Objects
with_kept before after None = after
with_kept before after (Some l) = line_released (line_forced after l (line_value before l)) l

-- the rows with these numbers, in order
abbrev pub all_kept : List DebugLine → (before after : Objects) → List ℕ → Objects
all_kept ls before after [] = after
all_kept ls before after (k ∷ ks) = all_kept ls before (with_kept before after (line_at ls k)) ks

-- from objects on, the next scan being number k of the run; rows with the numbers `kept` are kept by a warm start
abbrev pub trace_c_from : CUnit → (kept : List ℕ) → ℕ → List Event → Objects → ℕ → List Entry
trace_c_from c kept n [] o k = []
trace_c_from c kept n (Input a z ∷ es) o k = trace_c_from c kept n es (with_address c (address_in a) z o) k
trace_c_from c kept n (Force i z ∷ es) o k = trace_c_from c kept n es (with_force o (line_at (lines_of (all_items c)) i) z) k
trace_c_from c kept n (Release i ∷ es) o k = trace_c_from c kept n es (with_release o (line_at (lines_of (all_items c)) i)) k
trace_c_from c kept n (Scan m ∷ es) o k = after_c_scan c k m (λ p. trace_c_from c kept n es p (k + 1)) (c_scan c m o n)
trace_c_from c kept n (ColdStart ∷ es) o k = after_init (λ p. trace_c_from c kept n es p k) (c_cold c n)
trace_c_from c kept n (WarmStart ∷ es) o k = after_init (λ p. trace_c_from c kept n es (all_kept (lines_of (all_items c)) o p kept) k) (c_cold c n)

-- a whole run with bound n: the first start, then one entry a scan
abbrev pub trace_c : CUnit → (kept : List ℕ) → ℕ → List Event → List Entry
trace_c c kept n es = after_init (λ o. trace_c_from c kept n es o 1) (c_cold c n)
