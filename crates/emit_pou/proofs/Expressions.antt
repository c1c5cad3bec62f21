-- The C of an expression gives the expression's number, where each variable is reached.
use Rattle.std.proofs.Common.{◌≡◌, refl, sym, ap, subst, ◌∙◌, ℕ, ◌^◌, List, Some}
use Rattle.std.specs.Prelude.{ℤ, pos}
use Rattle.plc_base.specs.declared.elem.Elem.{Elem}
use Rattle.plc_base.specs.Numbers.{Fits, residue, wrap}
use Rattle.plc_base.proofs.Wrapping.{literal-fits}
use Rattle.plc_base.specs.declared.elem.Elem.TheVariants.{Bool as Boolean}
use Rattle.plc_tree.specs.declared.typed.TypeId.{TypeId}
use Rattle.plc_tree.specs.declared.typed.TypeId.TheVariants.{Elem as elementary}
use Rattle.plc_tree.specs.declared.typed.TVar.{TVar}
use Rattle.plc_tree.specs.declared.typed.TPath.{TPath}
use Rattle.plc_tree.specs.declared.typed.TExpr.{TExpr, Number, Truth, Var, Paren', Unary', Binary', Row_of-TExpr, end_of-TExpr, more_of-TExpr}
use Rattle.plc_tree.specs.Outcome.{Done, then_do}
use Rattle.plc_tree.specs.Rows.{elem_of}
use Rattle.plc_tree.specs.Store.{Store}
use Rattle.plc_tree.specs.Execution.{Env, truth, apply, elem_of_node, side_of, value, value_one, holds}
use Rattle.plc_tree.specs.WellTyped.{var_in, type_of, HasType, OneHasType, IsTest}
use Rattle.c_tree.specs.declared.tree.CExpr.TheVariants as expr
use Rattle.c_tree.specs.declared.tree.CNum.TheVariants.{ULL}
use Rattle.c_meaning.specs.Values.{of_type, promoted, U64}
use Rattle.c_meaning.specs.Objects.{Objects}
use Rattle.c_meaning.specs.Loops.{CStore, is_true}
use Rattle.c_meaning.specs.Execution.{Frame, c_value}
use Rattle.emit_pou.specs.Expressions.{leaf, literal, operation, operation_of_one, c_expr, c_side}
use Rattle.emit_pou.specs.Like.{Sim, both_done, Alike, Gives, Held, at_work, IsReached}
use Rattle.emit_pou.proofs.Steps.{sim_map}
use Rattle.emit_pou.proofs.Operators.{cast_sim, one_sim, operation_sim, fits-truth}

-- each variable of these is reached by the path that the C has for it
abbrev pub AreReached : List TVar → Env → Frame → (Store → Objects → Type 0) → Type 0
AreReached vs env fr L = (p : TPath) (t : TypeId) → type_of (var_in vs p.first) ≡ Some t → IsReached env fr L (leaf vs p.first) p t

-- a node is of its type
pub node_is : (vs : List TVar) (e : TExpr) (t : TypeId) → HasType vs e t → elem_of_node e ≡ elem_of t
node_is vs (Number z ty) t h = ap elem_of h.0
node_is vs (Truth b ty) t h = ap elem_of h.0
node_is vs (Var p ty) t h = ap elem_of h.0
node_is vs (Paren' ty h inner) t typed = ap elem_of typed.0
node_is vs (Unary' op ty h inner) t typed = ap elem_of typed.0
node_is vs (Binary' op ty h l k r) t typed = ap elem_of typed.0

side_is : (vs : List TVar) {m : _} (r : Row_of-TExpr m) (t : TypeId) → OneHasType vs r t → side_of r ≡ elem_of t
side_is vs end_of-TExpr t h = absurd h
side_is vs (more_of-TExpr e rest) t h = node_is vs e t h

pub literal_sim : (fr : Frame) (c : CStore) (t : Elem) (z : ℤ) (n : ℕ) → Fits t z → Sim (Gives c (Alike t)) (Done z n) (c_value fr (literal t z) c n)
literal_sim fr c t z n f =
    cast_sim fr c {R = λ a v. (a ≡ z) × (v ≡ of_type U64 (pos (residue (2 ^ 64) z)))} (Done z n) t (expr.Number (residue (2 ^ 64) z) ULL) n (both_done (record { value = (refl, refl); stays = refl }))
    (λ a v p. record { is = ap (of_type (promoted t)) (ap (λ w. wrap t w.z) p.1 ∙ literal-fits t z f ∙ sym p.0); fits = subst (Fits t) (sym p.0) f })

module _ (vs : List TVar) (env : Env) (fr : Frame) (L : Store → Objects → Type 0) (reached : AreReached vs env fr L) (s : Store) (o : Objects) (h : Held) (like : L s o) where
  abbrev c : CStore
  c = at_work o h

  mutual
    unfolding c_expr

    pub expr_sim : (e : TExpr) (t : TypeId) → HasType vs e t → (n : ℕ) → Sim (Gives c (Alike (elem_of t))) (value env e s n) (c_value fr (c_expr vs e) c n)
    expr_sim (Number z ty) t (e, f) n =
        subst (λ t. Sim (Gives c (Alike (elem_of t))) (Done z n) (c_value fr (literal (elem_of ty) z) c n)) e (literal_sim fr c (elem_of ty) z n f)
    expr_sim (Truth b ty) t (e, f) n =
        subst (λ t. Sim (Gives c (Alike (elem_of t))) (Done (truth b) n) (c_value fr (literal (elem_of ty) (truth b)) c n)) e
        (literal_sim fr c (elem_of ty) (truth b) n (subst (λ t. Fits (elem_of t) (truth b)) (sym f) (fits-truth b)))
    expr_sim (Var p ty) t (e, f) n =
        subst (λ t. Sim (Gives c (Alike (elem_of t))) (value env (Var p ty) s n) (c_value fr (expr.GetVar (leaf vs p.first)) c n)) e (IsReached.get (reached p ty f) s o h n like)
    expr_sim (Paren' ty k inner) t (e, p) n =
        subst (λ t. Sim (Gives c (Alike (elem_of t))) (value_one env inner s n) (c_value fr (c_side vs inner) c n)) e (side_sim inner ty p n)
    expr_sim (Unary' op ty k inner) t (e, row, p) n =
        subst (λ t. Sim (Gives c (Alike (elem_of t))) (value env (Unary' op ty k inner) s n) (c_value fr (operation_of_one op (elem_of ty) (c_side vs inner)) c n)) e
        (one_sim fr c op (elem_of ty) (λ m. value_one env inner s m) (c_side vs inner) n (λ m. side_sim inner ty p m))
    expr_sim (Binary' op ty i l k r) t (e, (o', row, p, q)) n =
        subst (λ t. Sim (Gives c (Alike (elem_of t))) (value env (Binary' op ty i l k r) s n) (c_value fr (operation op (elem_of ty) (c_side vs l) (c_side vs r)) c n)) e
        (subst (λ i. Sim (Gives c (Alike (elem_of ty))) (then_do (value_one env l s n) (λ a j. then_do (value_one env r s j) (λ b m. Done (apply op i a b) m))) (c_value fr (operation op (elem_of ty) (c_side vs l) (c_side vs r)) c n))
        (sym (side_is vs l o' p))
        (operation_sim fr c op o' ty row (value_one env l s n) (λ m. value_one env r s m) (c_side vs l) (c_side vs r) n (side_sim l o' p n) (λ m. side_sim r o' q m)))

    side_sim : {m : _} (r : Row_of-TExpr m) (t : TypeId) → OneHasType vs r t → (n : ℕ) → Sim (Gives c (Alike (elem_of t))) (value_one env r s n) (c_value fr (c_side vs r) c n)
    side_sim end_of-TExpr t typed n = absurd typed
    side_sim (more_of-TExpr e rest) t typed n = expr_sim e t typed n

  -- a condition holds where its C is not 0
  pub test_sim : (e : TExpr) → IsTest vs e → (n : ℕ) → Sim (Gives c (λ b v. is_true v ≡ b)) (holds env e s n) (c_value fr (c_expr vs e) c n)
  test_sim e typed n = sim_map (value env e s n) (c_value fr (c_expr vs e) c n) _ (expr_sim e (elementary Boolean) typed n) (λ z v r. record { value = ap is_true r.value.is; stays = r.stays })
