-- What paths, operators, casts, calls, an `if` and a `while` mean, by their sides as expressions and their parts, arguments
-- and statements as lists; and statements one after the other.
use Rattle.std.proofs.Common.{◌≡◌, refl, sym, ap, ◌∙◌, ℕ, suc, List, [], ◌∷◌, ◌++◌, Option}
use Rattle.std.specs.Prelude.{unwrap_or, if◌then◌else◌, Some, None}
use Rattle.plc_base.specs.declared.elem.Elem.{Elem}
use Rattle.c_tree.specs.declared.tree.CArg.{CArg}
use Rattle.c_tree.specs.declared.tree.CArg.TheBlock.{hidden-the_row-CSel-0, hidden-the_row-CArg-1, hidden-the_row-CExpr-2}
use Rattle.c_tree.specs.declared.tree.CBin.{CBin}
use Rattle.c_tree.specs.declared.tree.CExpr.{CExpr}
use Rattle.c_tree.specs.declared.tree.CExpr.TheVariants as expr
use Rattle.c_tree.specs.declared.tree.CPath.{CPath}
use Rattle.c_tree.specs.declared.tree.CSel.{CSel}
use Rattle.c_tree.specs.declared.tree.CStmt.{CStmt, If, While}
use Rattle.c_tree.specs.declared.tree.CStmt.TheBlock.{hidden-the_row-CStmt-0}
use Rattle.c_tree.specs.declared.tree.CUn.{CUn}
use Rattle.c_meaning.specs.Outcome.{COut, CDone, CPast, Undefined, c_then}
use Rattle.c_meaning.specs.Values.{c_bin, c_un}
use Rattle.c_meaning.specs.Objects.{Place}
use Rattle.c_meaning.specs.Execution.{Frame, Local, local_in, CStore, CState, CNext, Broken, Jumps, Returned, c_cast, c_value, c_sel, c_parts, c_sels, c_place, c_args, c_args_in, c_arg, first_place, local_path, plain_local, local_of, path_value, object_value, cell_value, c_go_on, is_true, c_turns, c_exec, c_stmts, c_run}

-- ---- expressions

pub parts_place : (fr : Frame) (qs : List CSel) (p : Place) (s : CStore) (n : ℕ) → c_parts fr (hidden-the_row-CSel-0 qs) p s n ≡ c_sels fr qs p s n
unfolding hidden-the_row-CSel-0 denote.Hole.Carrier.hidden
parts_place fr [] p s n = refl
parts_place fr (q ∷ qs) p s n = λ i. c_then (c_sel fr q p s n) (λ k r. parts_place fr qs k.0 k.1 r i)

is_plain : (arrow : Option (List ℕ)) (parts : List CSel) (l : Option Local) → local_path arrow (hidden-the_row-CSel-0 parts) l ≡ plain_local arrow parts l
unfolding hidden-the_row-CSel-0 denote.Hole.Carrier.hidden
is_plain None [] l = refl
is_plain None (q ∷ qs) l = refl
is_plain (Some f) qs l = refl

pub c_value-Path : (fr : Frame) (p : CPath) (s : CStore) (n : ℕ) → c_value fr (expr.Path p) s n ≡ path_value fr (local_of p s.locals) (c_place fr p s n) s n
c_value-Path fr p s n = λ i. path_value fr (is_plain p.arrow p.parts (local_in s.locals p.first) i) (parts_place fr p.parts (first_place fr p.first p.arrow) s n i) s n

pub c_value-GetVar : (fr : Frame) (p : CPath) (s : CStore) (n : ℕ) → c_value fr (expr.GetVar p) s n ≡ c_then (c_place fr p s n) (object_value fr)
c_value-GetVar fr p s n = ap (λ y. c_then y (object_value fr)) (parts_place fr p.parts (first_place fr p.first p.arrow) s n)

pub c_value-GetLocated : (fr : Frame) (p : CPath) (s : CStore) (n : ℕ) → c_value fr (expr.GetLocated p) s n ≡ c_then (c_place fr p s n) (cell_value fr)
c_value-GetLocated fr p s n = ap (λ y. c_then y (cell_value fr)) (parts_place fr p.parts (first_place fr p.first p.arrow) s n)

pub args_in_row : (fr : Frame) (args : List CArg) (s : CStore) (n : ℕ) → c_args_in fr (hidden-the_row-CArg-1 args) s n ≡ c_args fr args s n
unfolding hidden-the_row-CArg-1 denote.Hole.Carrier.hidden
args_in_row fr [] s n = refl
args_in_row fr (a ∷ rest) s n = λ i. c_then (c_arg fr a s n) (λ x r. c_then (args_in_row fr rest x.1 r i) (λ xs k. CDone (x.0 ∷ xs.0, xs.1) k))

pub c_value-Bin : (fr : Frame) (op : CBin) (a b : CExpr) (s : CStore) (n : ℕ)
    → c_value fr (expr.Bin op a b) s n ≡ c_then (c_value fr a s n) (λ x r. c_then (c_value fr b x.1 r) (λ y i. c_then (c_bin op x.0 y.0 i) (λ v j. CDone (v, y.1) j)))
unfolding hidden-the_row-CExpr-2 denote.Hole.Carrier.hidden
c_value-Bin fr op a b s n = refl

pub c_value-Un : (fr : Frame) (op : CUn) (e : CExpr) (s : CStore) (n : ℕ) → c_value fr (expr.Un op e) s n ≡ c_then (c_value fr e s n) (λ x r. c_then (c_un op x.0 r) (λ v j. CDone (v, x.1) j))
unfolding hidden-the_row-CExpr-2 denote.Hole.Carrier.hidden
c_value-Un fr op e s n = refl

pub c_value-Cast : (fr : Frame) (to : Elem) (e : CExpr) (s : CStore) (n : ℕ) → c_value fr (expr.Cast to e) s n ≡ c_then (c_value fr e s n) (λ v r. CDone (c_cast to v.0, v.1) r)
unfolding hidden-the_row-CExpr-2 denote.Hole.Carrier.hidden
c_value-Cast fr to e s n = refl

-- ---- an `if` and a `while`, whose statements are lists

stmts_run : (fr : Frame) (cs : List CStmt) (s : CStore) (n : ℕ) → c_stmts fr (hidden-the_row-CStmt-0 cs) s n ≡ c_run fr cs s n
unfolding hidden-the_row-CStmt-0 denote.Hole.Carrier.hidden
stmts_run fr [] s n = refl
stmts_run fr (c ∷ cs) s n = λ i. c_then (c_exec fr c s n) (λ st r. c_go_on st r (λ t k. stmts_run fr cs t k i))

pub c_exec-If : (fr : Frame) (test : CExpr) (body : List CStmt) (other : Option (List CStmt)) (s : CStore) (n : ℕ)
    → c_exec fr (If test body other) s n ≡ c_then (c_value fr test s n) (λ v r. if is_true v.0 then c_run fr body v.1 r else c_run fr (unwrap_or other []) v.1 r)
c_exec-If fr test body None s n = λ i. c_then (c_value fr test s n) (λ v r. if is_true v.0 then stmts_run fr body v.1 r i else CDone (v.1, CNext) r)
c_exec-If fr test body (Some cs) s n = λ i. c_then (c_value fr test s n) (λ v r. if is_true v.0 then stmts_run fr body v.1 r i else stmts_run fr cs v.1 r i)

pub c_exec-While : (fr : Frame) (test : CExpr) (body : List CStmt) (s : CStore) (n : ℕ) → c_exec fr (While test body) s n ≡ c_turns (suc n) (c_value fr test) (c_run fr body) s n
c_exec-While fr test body s n = λ i. c_turns (suc n) (c_value fr test) (λ t k. stmts_run fr body t k i) s n

-- ---- statements one after the other

pub then_then : {A B C : Type 0} (y : COut A) (f : A → ℕ → COut B) (g : B → ℕ → COut C) → c_then (c_then y f) g ≡ c_then y (λ a r. c_then (f a r) g)
then_then (CDone a r) f g = refl
then_then CPast f g = refl
then_then (Undefined w) f g = refl

pub go_then : (st : CState) (n : ℕ) (f g : CStore → ℕ → COut CState) → c_then (c_go_on st n f) (λ t r. c_go_on t r g) ≡ c_go_on st n (λ s r. c_then (f s r) (λ t k. c_go_on t k g))
go_then (s, CNext) n f g = refl
go_then (s, Broken) n f g = refl
go_then (s, Jumps name) n f g = refl
go_then (s, Returned v) n f g = refl

pub c_run-append : (fr : Frame) (xs ys : List CStmt) (s : CStore) (n : ℕ) → c_run fr (xs ++ ys) s n ≡ c_then (c_run fr xs s n) (λ st r. c_go_on st r (c_run fr ys))
c_run-append fr [] ys s n = refl
c_run-append fr (x ∷ xs) ys s n =
    (λ i. c_then (c_exec fr x s n) (λ st r. c_go_on st r (λ t k. c_run-append fr xs ys t k i)))
    ∙ (λ i. c_then (c_exec fr x s n) (λ st r. sym (go_then st r (c_run fr xs) (c_run fr ys)) i))
    ∙ sym (then_then (c_exec fr x s n) (λ st r. c_go_on st r (c_run fr xs)) (λ st r. c_go_on st r (c_run fr ys)))

go_end : (st : CState) (n : ℕ) (fr : Frame) → c_go_on st n (c_run fr []) ≡ CDone st n
go_end (s, CNext) n fr = refl
go_end (s, Broken) n fr = refl
go_end (s, Jumps name) n fr = refl
go_end (s, Returned v) n fr = refl

then_end : (fr : Frame) (y : COut CState) → c_then y (λ st r. c_go_on st r (c_run fr [])) ≡ y
then_end fr (CDone st n) = go_end st n fr
then_end fr CPast = refl
then_end fr (Undefined w) = refl

pub c_run-one : (fr : Frame) (x : CStmt) (s : CStore) (n : ℕ) → c_run fr (x ∷ []) s n ≡ c_exec fr x s n
c_run-one fr x s n = then_end fr (c_exec fr x s n)
