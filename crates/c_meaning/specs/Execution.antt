-- What the functions of a unit do, with fuel; evaluation goes from left to right, and each step hands on the store that
-- it leaves.
use Rattle.std.specs.Prelude.{◌≡◌, ◌≤◌, ℕ, suc, List, [], ◌∷◌, ◌++◌, ℤ, pos, int_le, int_lt, unsigned_abs, Bool, false, ◌&&◌, Option, Some, None, if◌then◌else◌}
use Rattle.std.specs.Str.{bytes_eq}
use Rattle.plc_base.specs.declared.elem.Elem.{Elem}
use Rattle.plc_base.specs.declared.elem.Elem.TheVariants.{Int, Time}
use Rattle.plc_base.specs.declared.which.Which.TheVariants.{Index}
use Rattle.plc_base.specs.Numbers.{wrap}
use Rattle.c_tree.specs.declared.tree.CType.{CType}
use Rattle.c_tree.specs.declared.tree.CType.TheVariants as of
use Rattle.c_tree.specs.declared.tree.CParam.{CParam}
use Rattle.c_tree.specs.declared.tree.CParam.TheVariants as param
use Rattle.c_tree.specs.declared.tree.CLocal.{CLocal}
use Rattle.c_tree.specs.declared.tree.CPath.{CPath}
use Rattle.c_tree.specs.declared.tree.CSel.{CSel}
use Rattle.c_tree.specs.declared.tree.CSel as sel
use Rattle.c_tree.specs.declared.tree.CArg.{CArg}
use Rattle.c_tree.specs.declared.tree.CArg as arg
use Rattle.c_tree.specs.declared.tree.CStmt.{CStmt, Row_of-CStmt, end_of-CStmt, more_of-CStmt, Held-CStmt-If-2, None', Some'}
use Rattle.c_tree.specs.declared.tree.CStmt as stmt
use Rattle.c_tree.specs.declared.tree.CExpr.{CExpr, Row_of-CExpr, end_of-CExpr, more_of-CExpr, Row_of-CSel, end_of-CSel, more_of-CSel, Row_of-CArg, end_of-CArg, more_of-CArg}
use Rattle.c_tree.specs.declared.tree.CExpr as expr
use Rattle.c_tree.specs.declared.tree.CItem.{CItem}
use Rattle.c_meaning.specs.Outcome.{COut, CDone, CPast, Undefined, c_then}
use Rattle.c_meaning.specs.Values.{CVal, I32, of_type, promoted, c_number, c_bin, c_un}
use Rattle.c_meaning.specs.Objects.{Named, Nth, Place, Objects, set_plain, init_var, set_var, init_located, get_located, set_located, publish, copied}
pub use Rattle.c_meaning.specs.Loops.{Local, set_local, CStore, c_store, CFlow, CNext, Broken, Jumps, Returned, Got, CState, c_go_on, is_true, c_next_turn, c_turns, c_back, c_jumps}
use Rattle.c_meaning.specs.Items.{Shape, Function, shape_at, leaves_at}

-- ---- functions while they run

-- a pointer with the place that it points to
pub record Pointer : Type 0 where
  pub name : List ℕ
  pub place : Place

-- what is handed to a function
pub data Passed : Type 0 where
  ByValue : CVal → Passed
  ByPlace : Place → Passed

-- what a call leaves
pub record Left : Type 0 where
  pub objects : Objects
  pub result : Option CVal

-- where statements stand: among the items of their unit, with the pointers of their function and the functions above it
pub record Frame : Type 0 where
  pub items : List CItem
  pub pointers : List Pointer
  pub call : List ℕ → List Passed → Objects → ℕ → COut Left

-- no call makes fuel
abbrev pub CallsSpend : Frame → Type 0
CallsSpend fr = (f : List ℕ) (xs : List Passed) (o : Objects) (l : Left) (n r : ℕ) → fr.call f xs o n ≡ CDone l r → r ≤ n

-- ---- paths

abbrev pub local_in : List Local → List ℕ → Option Local
local_in [] name = None
local_in (l ∷ ls) name = if bytes_eq l.name name then Some l else local_in ls name

abbrev pub pointed : List Pointer → List ℕ → Place
pointed [] name = []
pointed (p ∷ ps) name = if bytes_eq p.name name then p.place else pointed ps name

abbrev pub first_place : Frame → List ℕ → Option (List ℕ) → Place
first_place fr first None = Named first ∷ []
first_place fr first (Some field) = pointed fr.pointers first ++ (Named field ∷ [])

-- the dimensions that are not indexed yet
abbrev pub dims_of : Option Shape → List ℕ
dims_of None = []
dims_of (Some s) = s.dims

-- whether a number is an index of the first of them
abbrev pub is_index : List ℕ → ℤ → Bool
is_index [] z = false
is_index (d ∷ ds) z = int_le (pos 0) z && int_lt z (pos d)

-- an element of what a place has, which is undefined outside its dimension
abbrev pub c_element : List ℕ → Place → ℤ → CStore → ℕ → COut (Got Place)
c_element dims p z s n = if is_index dims z then CDone (p ++ (Nth (unsigned_abs z) ∷ []), s) n else Undefined Index

-- ---- expressions

-- the elementary type of a part, int's where it has none
abbrev pub elem_of_type : CType → Elem
elem_of_type (of.Plain e) = e
elem_of_type (of.Flagged e) = e
elem_of_type (of.Celled e) = e
elem_of_type (of.Struct name) = Int

abbrev pub elem_of_shape : Option Shape → Elem
elem_of_shape None = Int
elem_of_shape (Some s) = elem_of_type s.ty

abbrev pub elem_at : Frame → Place → Elem
elem_at fr p = elem_of_shape (shape_at fr.items p)

-- a number that an object of this place has, promoted
abbrev pub value_at : Frame → Place → ℤ → CVal
value_at fr p z = of_type (promoted (elem_at fr p)) z

abbrev pub object_value : Frame → Got Place → ℕ → COut (Got CVal)
object_value fr (p, s) n = CDone (value_at fr p (s.objects.val p), s) n

abbrev pub cell_value : Frame → Got Place → ℕ → COut (Got CVal)
cell_value fr (p, s) n = c_then (get_located s.objects p n) (λ z r. CDone (value_at fr p z, s) r)

-- what a path reads: a local, which needs no evaluation, else the object at its place
abbrev pub path_value : Frame → Option Local → COut (Got Place) → CStore → ℕ → COut (Got CVal)
path_value fr (Some l) place s n = CDone (of_type (promoted l.elem) l.value, s) n
path_value fr None place s n = c_then place (object_value fr)

-- the local that a path is, where it is one
abbrev pub local_path : Option (List ℕ) → {m : _} → Row_of-CSel m → Option Local → Option Local
local_path None end_of-CSel l = l
local_path None (more_of-CSel q rest) l = None
local_path (Some field) parts l = None

-- a cast reduces to its type
abbrev pub c_cast : Elem → CVal → CVal
c_cast to v = of_type (promoted to) (wrap to v.z)

-- the value of a call; one without a result, which the rules let stand in no expression, gives int 0
abbrev pub value_left : Option CVal → CVal
value_left None = of_type I32 (pos 0)
value_left (Some v) = v

abbrev mutual
  pub c_value : Frame → CExpr → CStore → ℕ → COut (Got CVal)
  c_value fr (expr.Number v k) s n = CDone (c_number k v, s) n
  c_value fr (expr.Path' first arrow h parts) s n = path_value fr (local_path arrow parts (local_in s.locals first)) (c_parts fr parts (first_place fr first arrow) s n) s n
  c_value fr expr.Moment s n = CDone (of_type (promoted Time) s.objects.moment, s) n
  c_value fr (expr.GetVar' first arrow h parts) s n = c_then (c_parts fr parts (first_place fr first arrow) s n) (object_value fr)
  c_value fr (expr.GetLocated' first arrow h parts) s n = c_then (c_parts fr parts (first_place fr first arrow) s n) (cell_value fr)
  c_value fr (expr.Call' name h args) s n =
      c_then (c_args_in fr args s n) (λ xs r. c_then (fr.call name xs.0 xs.1.objects r) (λ l k. CDone (value_left l.result, c_store l.objects xs.1.locals) k))
  c_value fr (expr.Bin' op h left k right) s n =
      c_then (c_side fr left s n) (λ a r. c_then (c_side fr right a.1 r) (λ b i. c_then (c_bin op a.0 b.0 i) (λ v j. CDone (v, b.1) j)))
  c_value fr (expr.Un' op h inner) s n = c_then (c_side fr inner s n) (λ a r. c_then (c_un op a.0 r) (λ v j. CDone (v, a.1) j))
  c_value fr (expr.Cast' to h inner) s n = c_then (c_side fr inner s n) (λ a r. CDone (c_cast to a.0, a.1) r)

  -- of the one expression in a row
  pub c_side : Frame → {m : _} → Row_of-CExpr m → CStore → ℕ → COut (Got CVal)
  c_side fr end_of-CExpr s n = CPast
  c_side fr (more_of-CExpr e rest) s n = c_value fr e s n

  -- a step further; an index is tested before what stands behind it is evaluated
  pub c_sel : Frame → CSel → Place → CStore → ℕ → COut (Got Place)
  c_sel fr (sel.Field name) p s n = CDone (p ++ (Named name ∷ []), s) n
  c_sel fr (sel.Index e) p s n = c_then (c_value fr e s n) (λ v r. c_element (dims_of (shape_at fr.items p)) p v.0.z v.1 r)

  pub c_parts : Frame → {m : _} → Row_of-CSel m → Place → CStore → ℕ → COut (Got Place)
  c_parts fr end_of-CSel p s n = CDone (p, s) n
  c_parts fr (more_of-CSel x rest) p s n = c_then (c_sel fr x p s n) (λ q r. c_parts fr rest q.0 q.1 r)

  pub c_arg : Frame → CArg → CStore → ℕ → COut (Got Passed)
  c_arg fr (arg.Value e) s n = c_then (c_value fr e s n) (λ v r. CDone (ByValue v.0, v.1) r)
  c_arg fr (arg.Address' first arrow h parts) s n = c_then (c_parts fr parts (first_place fr first arrow) s n) (λ p r. CDone (ByPlace p.0, p.1) r)
  c_arg fr (arg.Pass name) s n = CDone (ByPlace (pointed fr.pointers name), s) n

  -- of arguments in a row
  pub c_args_in : Frame → {m : _} → Row_of-CArg m → CStore → ℕ → COut (Got (List Passed))
  c_args_in fr end_of-CArg s n = CDone ([], s) n
  c_args_in fr (more_of-CArg a rest) s n = c_then (c_arg fr a s n) (λ x r. c_then (c_args_in fr rest x.1 r) (λ xs k. CDone (x.0 ∷ xs.0, xs.1) k))

-- ---- statements

-- the parts and the arguments of statements, as lists
abbrev pub c_sels : Frame → List CSel → Place → CStore → ℕ → COut (Got Place)
c_sels fr [] p s n = CDone (p, s) n
c_sels fr (q ∷ qs) p s n = c_then (c_sel fr q p s n) (λ k r. c_sels fr qs k.0 k.1 r)

abbrev pub c_place : Frame → CPath → CStore → ℕ → COut (Got Place)
c_place fr p s n = c_sels fr p.parts (first_place fr p.first p.arrow) s n

abbrev pub c_args : Frame → List CArg → CStore → ℕ → COut (Got (List Passed))
c_args fr [] s n = CDone ([], s) n
c_args fr (a ∷ rest) s n = c_then (c_arg fr a s n) (λ x r. c_then (c_args fr rest x.1 r) (λ xs k. CDone (x.0 ∷ xs.0, xs.1) k))

-- the local that a path is, where it is one
abbrev pub plain_local : Option (List ℕ) → List CSel → Option Local → Option Local
plain_local None [] l = l
plain_local None (q ∷ qs) l = None
plain_local (Some field) qs l = None

abbrev pub local_of : CPath → List Local → Option Local
local_of p ls = plain_local p.arrow p.parts (local_in ls p.first)

-- the next statement, with other objects
abbrev pub c_next : CStore → Objects → ℕ → COut CState
c_next s o n = CDone (c_store o s.locals, CNext) n

-- the place, then the value, which is reduced to the type of the place, then what is done with both
abbrev pub c_setting : (Objects → Place → ℤ → ℕ → COut Objects) → Frame → CPath → CExpr → CStore → ℕ → COut CState
c_setting set fr to e s n =
    c_then (c_place fr to s n) (λ p r. c_then (c_value fr e p.1 r) (λ v k. c_then (set v.1.objects p.0 (wrap (elem_at fr p.0) v.0.z) k) (c_next v.1)))

-- what is never undefined
abbrev pub surely : (Objects → Place → ℤ → Objects) → Objects → Place → ℤ → ℕ → COut Objects
surely set o p z n = CDone (set o p z) n

-- what `=` sets: a local, which needs no evaluation, else an object
abbrev pub c_set : Frame → CPath → Option Local → CExpr → CStore → ℕ → COut CState
c_set fr to (Some l) e s n = c_then (c_value fr e s n) (λ v r. CDone (c_store v.1.objects (set_local v.1.locals to.first (wrap l.elem v.0.z)), CNext) r)
c_set fr to None e s n = c_setting (surely set_plain) fr to e s n

abbrev pub c_copy : Frame → CPath → CPath → CStore → ℕ → COut CState
c_copy fr to from s n =
    c_then (c_place fr to s n) (λ p r. c_then (c_place fr from p.1 r) (λ q k. c_next q.1 (copied q.1.objects (leaves_at fr.items p.0) (leaves_at fr.items q.0)) k))

abbrev pub c_return : Frame → Option CExpr → CStore → ℕ → COut CState
c_return fr None s n = CDone (s, Returned None) n
c_return fr (Some e) s n = c_then (c_value fr e s n) (λ v r. CDone (v.1, Returned (Some v.0)) r)

abbrev mutual
  pub c_exec : Frame → CStmt → CStore → ℕ → COut CState
  c_exec fr (stmt.Set to e) s n = c_set fr to (local_of to s.locals) e s n
  c_exec fr (stmt.InitVar to e) s n = c_setting (surely init_var) fr to e s n
  c_exec fr (stmt.SetVar to e) s n = c_setting (surely set_var) fr to e s n
  c_exec fr (stmt.InitLocated to cell) s n = c_then (c_place fr to s n) (λ p r. c_next p.1 (init_located p.1.objects p.0 cell) r)
  c_exec fr (stmt.SetLocated to e) s n = c_setting set_located fr to e s n
  c_exec fr (stmt.Copy to from) s n = c_copy fr to from s n
  c_exec fr (stmt.Publish path) s n = c_then (c_place fr path s n) (λ p r. c_then (publish p.1.objects p.0 r) (c_next p.1))
  c_exec fr (stmt.Call f args) s n = c_then (c_args fr args s n) (λ xs r. c_then (fr.call f xs.0 xs.1.objects r) (λ l k. c_next xs.1 l.objects k))
  c_exec fr (stmt.If' test h body other) s n = c_then (c_value fr test s n) (λ v r. if is_true v.0 then c_stmts fr body v.1 r else c_else fr other v.1 r)
  c_exec fr (stmt.While' test h body) s n = c_turns (suc n) (c_value fr test) (c_stmts fr body) s n
  c_exec fr stmt.Break s n = CDone (s, Broken) n
  c_exec fr (stmt.Goto name) s n = CDone (s, Jumps name) n
  c_exec fr (stmt.Label name) s n = CDone (s, CNext) n
  c_exec fr (stmt.Return value) s n = c_return fr value s n

  -- of statements in a row
  pub c_stmts : Frame → {m : _} → Row_of-CStmt m → CStore → ℕ → COut CState
  c_stmts fr end_of-CStmt s n = CDone (s, CNext) n
  c_stmts fr (more_of-CStmt c cs) s n = c_then (c_exec fr c s n) (λ st r. c_go_on st r (c_stmts fr cs))

  -- nothing is done where there is no `else`
  pub c_else : Frame → Held-CStmt-If-2 → CStore → ℕ → COut CState
  c_else fr None' s n = CDone (s, CNext) n
  c_else fr (Some' h cs) s n = c_stmts fr cs s n

-- statements one after the other; a jump leaves them
abbrev pub c_run : Frame → List CStmt → CStore → ℕ → COut CState
c_run fr [] s n = CDone (s, CNext) n
c_run fr (c ∷ cs) s n = c_then (c_exec fr c s n) (λ st r. c_go_on st r (c_run fr cs))

-- ---- labels

-- whether a label that is sought stands here
abbrev pub arrived : List ℕ → CStmt → CFlow
arrived name (stmt.Label label) = if bytes_eq label name then CNext else Jumps name
arrived name c = Jumps name

-- once over the statements of a function: while a label is sought they are passed by up to it
abbrev pub c_walk : Frame → List CStmt → CState → ℕ → COut CState
c_walk fr [] st n = CDone st n
c_walk fr (c ∷ cs) (s, CNext) n = c_then (c_exec fr c s n) (c_walk fr cs)
c_walk fr (c ∷ cs) (s, Broken) n = CDone (s, Broken) n
c_walk fr (c ∷ cs) (s, Jumps name) n = c_walk fr cs (s, arrived name c) n
c_walk fr (c ∷ cs) (s, Returned v) n = CDone (s, Returned v) n

-- the statements of a function: each goto to a label that stands before it is a turn
abbrev pub c_body : Frame → List CStmt → CStore → ℕ → COut CState
c_body fr body s n = c_jumps (suc n) (c_walk fr body) (s, CNext) n

-- ---- functions

-- parameters with what was handed to them: by value it is converted to their type
abbrev pub bound_locals : List CParam → List Passed → List Local
bound_locals [] xs = []
bound_locals (p ∷ ps) [] = []
bound_locals (param.Value e name ∷ ps) (ByValue v ∷ xs) = record { name = name; elem = e; value = wrap e v.z } ∷ bound_locals ps xs
bound_locals (param.Value e name ∷ ps) (ByPlace k ∷ xs) = bound_locals ps xs
bound_locals (param.Pointer to name ∷ ps) (x ∷ xs) = bound_locals ps xs

abbrev pub bound_pointers : List CParam → List Passed → List Pointer
bound_pointers [] xs = []
bound_pointers (p ∷ ps) [] = []
bound_pointers (param.Pointer to name ∷ ps) (ByPlace k ∷ xs) = record { name = name; place = k } ∷ bound_pointers ps xs
bound_pointers (param.Pointer to name ∷ ps) (ByValue v ∷ xs) = bound_pointers ps xs
bound_pointers (param.Value e name ∷ ps) (x ∷ xs) = bound_pointers ps xs

-- each local gets its initial value in turn
abbrev pub c_locals : Frame → List CLocal → CStore → ℕ → COut CStore
c_locals fr [] s n = CDone s n
c_locals fr (l ∷ ls) s n =
    c_then (c_value fr l.init s n) (λ v r. c_locals fr ls (c_store v.1.objects (v.1.locals ++ (record { name = l.name; elem = l.elem; value = wrap l.elem v.0.z } ∷ []))) r)

abbrev pub function_frame : List CItem → (List ℕ → List Passed → Objects → ℕ → COut Left) → Function → List Passed → Frame
function_frame items call f xs = record { items = items; pointers = bound_pointers f.params xs; call = call }

-- the value behind `return`, reduced to the type of the function's result, where it has one
abbrev pub result_of : Option Elem → CFlow → Option CVal
result_of None flow = None
result_of (Some to) CNext = None
result_of (Some to) Broken = None
result_of (Some to) (Jumps name) = None
result_of (Some to) (Returned None) = None
result_of (Some to) (Returned (Some v)) = Some (c_cast to v)

-- one function, whose callees do as `call` says
abbrev pub function_run : List CItem → (List ℕ → List Passed → Objects → ℕ → COut Left) → Function → List Passed → Objects → ℕ → COut Left
function_run items call f xs o n =
    c_then (c_locals (function_frame items call f xs) f.locals (c_store o (bound_locals f.params xs)) n)
    (λ s r. c_then (c_body (function_frame items call f xs) f.body s r) (λ st k. CDone (record { objects = st.0.objects; result = result_of f.result st.1 }) k))

-- a call by name, the last function first; each knows those above it alone, and where there is none, nothing is done
abbrev pub call_of : List CItem → List Function → List ℕ → List Passed → Objects → ℕ → COut Left
call_of items [] name xs o n = CDone (record { objects = o; result = None }) n
call_of items (f ∷ above) name xs o n =
    if bytes_eq f.name name then function_run items (call_of items above) f xs o n else call_of items above name xs o n
