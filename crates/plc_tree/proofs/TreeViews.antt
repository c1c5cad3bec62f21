-- The meaning, the typing and the height of each typed tree, with expressions and lists where the definitions have rows.
use Rattle.std.proofs.Common.{◌≡◌, refl, ap, ℕ, suc, ◌+◌, List, [], ◌∷◌, Option}
use Rattle.std.specs.Prelude.{max}
use Rattle.plc_tree.specs.declared.tree.BinOp.{BinOp}
use Rattle.plc_tree.specs.declared.tree.UnOp.{UnOp}
use Rattle.plc_tree.specs.declared.typed.TypeId.{TypeId}
use Rattle.plc_tree.specs.declared.typed.TVar.{TVar}
use Rattle.plc_tree.specs.declared.typed.TPath.{TPath}
use Rattle.plc_tree.specs.declared.typed.TExpr.{TExpr, Paren, Unary, Binary}
use Rattle.plc_tree.specs.declared.typed.TExpr.TheBlock.{hidden-the_row-TExpr-0}
use Rattle.plc_tree.specs.declared.typed.TStmt.{TStmt, For, While, Repeat}
use Rattle.plc_tree.specs.declared.typed.TStmt.TheBlock.{hidden-the_row-TStmt-0}
use Rattle.plc_tree.specs.Outcome.{Out, then_do}
use Rattle.plc_tree.specs.Loops.{State, go_on, while_turns, repeat_turns, for_turns}
use Rattle.plc_tree.specs.Store.{Store, write}
use Rattle.plc_tree.specs.Execution.{Env, elem_of_node, value, place, holds, found, for_test, counted, exec, exec_all, exec_list}
use Rattle.plc_tree.specs.TypedHeights.{height}
use Rattle.plc_tree.specs.WellTyped.{HasType, IsRow, IsRowOfOne}

pub type-Paren : (vs : List TVar) (ty t : TypeId) (a : TExpr) → HasType vs (Paren ty a) t ≡ ((ty ≡ t) × HasType vs a ty)
unfolding hidden-the_row-TExpr-0 denote.Hole.Carrier.hidden
type-Paren vs ty t a = refl

pub type-Unary : (vs : List TVar) (op : UnOp) (ty t : TypeId) (a : TExpr) → HasType vs (Unary op ty a) t ≡ ((ty ≡ t) × IsRowOfOne op ty × HasType vs a ty)
unfolding hidden-the_row-TExpr-0 denote.Hole.Carrier.hidden
type-Unary vs op ty t a = refl

pub type-Binary : (vs : List TVar) (op : BinOp) (ty t : TypeId) (a b : TExpr)
    → HasType vs (Binary op ty a b) t ≡ ((ty ≡ t) × ((o : TypeId) × IsRow op o ty × HasType vs a o × HasType vs b o))
unfolding hidden-the_row-TExpr-0 denote.Hole.Carrier.hidden
type-Binary vs op ty t a b = refl

pub height-Paren : (ty : TypeId) (a : TExpr) → height (Paren ty a) ≡ height a + 1
unfolding hidden-the_row-TExpr-0 denote.Hole.Carrier.hidden
height-Paren ty a = refl

pub height-Unary : (op : UnOp) (ty : TypeId) (a : TExpr) → height (Unary op ty a) ≡ height a + 1
unfolding hidden-the_row-TExpr-0 denote.Hole.Carrier.hidden
height-Unary op ty a = refl

pub height-Binary : (op : BinOp) (ty : TypeId) (a b : TExpr) → height (Binary op ty a b) ≡ max (height a) (height b) + 1
unfolding hidden-the_row-TExpr-0 denote.Hole.Carrier.hidden
height-Binary op ty a b = refl

-- ---- statements in a row, as a list

pub list_row : (env : Env) (xs : List TStmt) → exec_all env (hidden-the_row-TStmt-0 xs) ≡ exec_list env xs
unfolding hidden-the_row-TStmt-0 denote.Hole.Carrier.hidden
list_row env [] = refl
list_row env (x ∷ xs) = ap (λ (k : Store → ℕ → Out State). λ (s : Store) (n : ℕ). then_do (exec env x s n) (λ st r. go_on st r k)) (list_row env xs)

pub exec-While : (env : Env) (test : TExpr) (body : List TStmt) (s : Store) (n : ℕ) → exec env (While test body) s n ≡ while_turns (suc n) (holds env test) (exec_list env body) s n
exec-While env test body s n = ap (λ k. while_turns (suc n) (holds env test) k s n) (list_row env body)

pub exec-Repeat : (env : Env) (body : List TStmt) (test : TExpr) (s : Store) (n : ℕ) → exec env (Repeat body test) s n ≡ repeat_turns (suc n) (exec_list env body) (holds env test) s n
exec-Repeat env body test s n = ap (λ k. repeat_turns (suc n) k (holds env test) s n) (list_row env body)

pub exec-For : (env : Env) (v : TPath) (start limit : TExpr) (step : Option TExpr) (body : List TStmt) (s : Store) (n : ℕ)
    → exec env (For v start limit step body) s n
    ≡ then_do (value env start s n)
    (λ z r. let first = write env.unit s (place env v) z in
    then_do (found env step limit first r) (λ x k. for_turns (suc k) (for_test env v) (exec_list env body) (counted env (elem_of_node start) v step limit) x first k))
exec-For env v start limit step body s n =
    ap
    (λ go. then_do (value env start s n)
    (λ z r. let first = write env.unit s (place env v) z in
    then_do (found env step limit first r) (λ x k. for_turns (suc k) (for_test env v) go (counted env (elem_of_node start) v step limit) x first k)))
    (list_row env body)
