-- When the objects of the C are like the store of the source, and when a step of the C does what a step of the source does.
use Rattle.std.specs.Prelude.{ℕ, ◌%◌, ◌^◌, ◌≡◌, List, [], ◌∷◌, map, ℤ, is_some}
use Rattle.std.specs.List.{All}
use Rattle.plc_base.specs.declared.elem.Elem.{Elem}
use Rattle.plc_base.specs.declared.elem.Elem.TheVariants.{Usint, Ulint}
use Rattle.plc_base.specs.Numbers.{Fits}
use Rattle.plc_tree.specs.declared.typed.TUnit.{TUnit}
use Rattle.plc_tree.specs.declared.typed.TPath.{TPath}
use Rattle.plc_tree.specs.declared.typed.TypeId.{TypeId}
use Rattle.plc_tree.specs.Outcome.{Out, Done, Past, then_do}
use Rattle.plc_tree.specs.Store.{Store, see, write}
use Rattle.plc_tree.specs.Loops.{Flow, Next, Exits, Returns, State}
use Rattle.plc_tree.specs.Execution.{Env, place}
use Rattle.plc_tree.specs.Rows.{Row, rows, elem_of}
use Rattle.c_tree.specs.declared.tree.CPath.{CPath}
use Rattle.c_tree.specs.declared.tree.CExpr.{CExpr}
use Rattle.c_tree.specs.declared.tree.CExpr.TheVariants.{GetVar}
use Rattle.c_tree.specs.declared.tree.CStmt.TheVariants.{SetVar}
use Rattle.c_meaning.specs.Outcome.{COut, CDone, CPast}
use Rattle.c_meaning.specs.Values.{CVal, of_type, promoted}
use Rattle.c_meaning.specs.Objects.{Named, Place, Objects}
use Rattle.c_meaning.specs.Loops.{Local, CStore, c_store, CFlow, CNext, Broken, Jumps, Returned, Got, CState}
use Rattle.c_meaning.specs.Execution.{Frame, c_value, c_exec}
use Rattle.emit_pou.specs.CNames.{pick_name, case_name, step_name, limit_name}

-- both are done with the same rest of the fuel and related results, or both are past the bound
pub data Sim {A B : Type 0} (R : A → B → Type 0) : Out A → COut B → Type 0 where
  both_done : {a : A} {b : B} {n : ℕ} → R a b → Sim R (Done a n) (CDone b n)
  both_past : Sim R Past CPast

-- ---- objects

-- the C place of a listed row
abbrev pub place_of : Row → Place
place_of r = Named r.object ∷ map Named r.fields

-- a listed variable shows what the source sees, within its type, and is flagged exactly where it is forced
pub record IsShown (u : TUnit) (s : Store) (o : Objects) (r : Row) : Type 0 where
  pub value : o.val (place_of r) ≡ see u s r.path
  pub flag : o.flag (place_of r) ≡ is_some (s.force r.path)
  pub fits : Fits r.elem (see u s r.path)

-- after k scans since the last start, at moment m, which is 0 behind a start; all other objects are free
pub record Like (u : TUnit) (s : Store) (k : ℕ) (m : ℤ) (o : Objects) : Type 0 where
  pub shown : All (IsShown u s o) (rows u)
  pub tick : o.tick ≡ k % 2 ^ 64
  pub moment : o.moment ≡ m

-- ---- values and states

-- a number of a type, and the value of its C
pub record Alike (t : Elem) (z : ℤ) (v : CVal) : Type 0 where
  pub is : v ≡ of_type (promoted t) z
  pub fits : Fits t z

-- what a C expression gives is related to what the source gives, and leaves the store as it is
pub record Gives {A : Type 0} (c : CStore) (R : A → CVal → Type 0) (a : A) (v : Got CVal) : Type 0 where
  pub value : R a v.0
  pub stays : v.1 ≡ c

-- the numbers that the locals of a body hold
pub record Held : Type 0 where
  pub pick : ℤ
  pub selector : ℤ
  pub step : ℤ
  pub limit : ℤ

-- a local with its value
abbrev local_of : Elem → List ℕ → ℤ → Local
local_of t name z = record { name = name; elem = t; value = z }

abbrev pub locals_with : Held → List Local
locals_with h = local_of Usint pick_name h.pick ∷ local_of Ulint case_name h.selector ∷ local_of Ulint step_name h.step ∷ local_of Ulint limit_name h.limit ∷ []

-- a body's function at work
abbrev pub at_work : Objects → Held → CStore
at_work o h = c_store o (locals_with h)

-- both go on in the same way
abbrev pub SameFlow : Flow → CFlow → Type 0
SameFlow Next CNext = Unit {0}
SameFlow Next Broken = ⊥
SameFlow Next (Jumps name) = ⊥
SameFlow Next (Returned v) = ⊥
SameFlow Exits CNext = ⊥
SameFlow Exits Broken = Unit {0}
SameFlow Exits (Jumps name) = ⊥
SameFlow Exits (Returned v) = ⊥
SameFlow Returns CNext = ⊥
SameFlow Returns Broken = ⊥
SameFlow Returns (Jumps name) = ⊥
SameFlow Returns (Returned v) = Unit {0}

-- a state of the source, and a state of the C whose objects are like its store, whatever its locals hold
pub record LikeState (L : Store → Objects → Type 0) (st : State) (c : CState) : Type 0 where
  pub objects : Objects
  pub held : Held
  pub is : c.0 ≡ at_work objects held
  pub like : L st.0 objects
  pub flow : SameFlow st.1 c.1

-- the same where the locals hold what they held, and the next statement follows
pub record IsWritten (L : Store → Objects → Type 0) (h : Held) (s : Store) (c : CState) : Type 0 where
  pub objects : Objects
  pub is : c ≡ (at_work objects h, CNext)
  pub like : L s objects

-- the C path leads to the variable: what is read by it is the variable's number, and what is set by it is written to the variable
pub record IsReached (env : Env) (fr : Frame) (L : Store → Objects → Type 0) (path : CPath) (p : TPath) (t : TypeId) : Type 0 where
  pub get : (s : Store) (o : Objects) (h : Held) (n : ℕ) → L s o
      → Sim (Gives (at_work o h) (Alike (elem_of t))) (Done (see env.unit s (place env p)) n) (c_value fr (GetVar path) (at_work o h) n)
  pub set : (s : Store) (o : Objects) (h : Held) (n : ℕ) (x : Out ℤ) (e : CExpr) → L s o → Sim (Gives (at_work o h) (Alike (elem_of t))) x (c_value fr e (at_work o h) n)
      → Sim (IsWritten L h) (then_do x (λ z r. Done (write env.unit s (place env p) z) r)) (c_exec fr (SetVar path e) (at_work o h) n)
